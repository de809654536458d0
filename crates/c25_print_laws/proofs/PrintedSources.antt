-- A source of printed lines is assembled to their words.
use Rattle.std.proofs.Common.{◌≡◌, ℕ, zero, suc, ◌+◌, ◌-◌, ◌<◌, ◌≤◌, ◌^◌, inl, Bool, true, false, not, cond, List, [], ◌∷◌, ◌++◌, length, map, Option, Some, None, Ok, refl, sym, ap, subst, ◌∙◌, arith, append_assoc, append-nil}
use Rattle.std.specs.List.{All, flat_map}
use Rattle.std.specs.Option.{option_map}
use Rattle.std.specs.Str.{bytes_eq}
use Rattle.std.proofs.lemmas.Bool.Decides.{nat_tests}
use Rattle.std.proofs.lemmas.List.{length-append}
use Rattle.std.proofs.lemmas.Slice.Eq.{bytes_eq-Decides}
use Rattle.c25_meaning_common.specs.Results.{◌>>=◌}
use Rattle.c25_meaning_instructions.specs.Table.{size_of}
use Rattle.c25_meaning_language.specs.Line.{first_word}
use Rattle.c25_meaning_language.proofs.Numbers.{size_of_form}
use Rattle.c25_meaning_expansion.specs.Expansion.{Config, Read}
use Rattle.c25_meaning_expansion.specs.ExpansionAnswers.{ExpandedLine, fault_by, given_by}
use Rattle.c25_meaning_expansion.specs.ExpansionRules.{macro_of}
use Rattle.c25_meaning_expansion.specs.ExpansionRuns.{start, start_of}
use Rattle.c25_meaning_expansion.specs.Files.{Files, text_named, file_name}
use Rattle.c25_meaning_expansion.specs.Rows.{Row, rows_from, file_number}
use Rattle.c25_meaning_objects.specs.declared.object.ModuleMark.{ModuleMark}
use Rattle.c25_meaning_assembly.specs.AssemblyLine.{Put}
use Rattle.c25_meaning_assembly.specs.Emission.{finished, module_with}
use Rattle.c25_meaning_assembly.specs.OperandFields.{target_size}
use Rattle.c25_meaning_assembly.specs.Sections.{PendingItem, Progress, is_file_name, is_line_number, pass, table}
use Rattle.c25_meaning_assembly.specs.ModuleOfSource.{Assembled, LinesSoFar, assembled, completed, entry_of, no_lines, origin_of, pass_line, passed, passed_by, passed_from}
use Rattle.c25_print_laws.specs.ExpansionLaws.{IsPlain}
use Rattle.c25_print_laws.proofs.PlainLines.{behind_lines, finishes_empty, first_plain}
use Rattle.c25_print_laws.specs.Saying.{Makes}
use Rattle.c25_print_laws.specs.Source.{Code, IsInRange, IsTextOf, Pair, Printed, Word, source_of, words_in}
use Rattle.c25_print_laws.proofs.DataWords.{instruction_words, one_quiet, one_word, two_quiet, two_words}
use Rattle.c25_print_laws.proofs.Families.{read_back}
use Rattle.c25_print_laws.proofs.Lines.{IsQuiet}
use Rattle.c25_print_laws.proofs.SourceLines.{AreQuiet, line_of, never_mark, source_lines}
use Rattle.c25_print_laws.proofs.SourcePassed.{Emits, IsUsed, emits_more, filled, item_at, leads, size_words, standing, text_section}
use Rattle.c25_meaning_common.specs.declared.placed.FileLine.{FileLine}

-- ---- the name of a source's file

pub named_file : (files : Files) (name text : List ℕ) → text_named files name ≡ Some text → file_name files (file_number files name) ≡ name
named_file [] name text h = absurd (cc)
named_file (f ∷ fs) name text h = of (bytes_eq name f.0) refl h (named_file fs name text) where
  of : (b : Bool) → bytes_eq name f.0 ≡ b → cond b (Some f.1) (text_named fs name) ≡ Some text → (text_named fs name ≡ Some text → file_name fs (file_number fs name) ≡ name)
      → file_name (f ∷ fs) (cond (not b) (1 + file_number fs name) 0) ≡ name
  of true e found rest = sym ((bytes_eq-Decides name f.0).0 e)
  of false e found rest =
      let next : 1 + file_number fs name ≡ suc (file_number fs name) = omega arith in
      ap (file_name (f ∷ fs)) next ∙ rest found

-- ---- lines that read back

-- a line makes words, as many as it takes, and expansion leaves it alone
pub record IsRead (text ws : List ℕ) : Type 0 where
  pub makes : Makes text ws
  pub sized : target_size makes.target (length makes.puts.trees) ≡ length ws
  pub quiet : IsQuiet text

pub is_read : (p : Printed) → IsInRange p → IsRead (line_of p) (words_in p)
is_read (Code i) h =
    let back = read_back i h in
    record {
      makes = instruction_words (line_of (Code i)) i back.says;
      sized = sym (size_of_form back.says.form back.says.numbers) ∙ ap size_of back.says.insn ∙ size_words i;
      quiet = back.quiet;
    }
is_read (Word n) h = record { makes = one_word n h; sized = refl; quiet = one_quiet n h }
is_read (Pair m n) h = record { makes = two_words m n h.0 h.1; sized = refl; quiet = two_quiet m n h.0 h.1 }

abbrev AllRead : List Printed → Type 0
AllRead [] = Unit {0}
AllRead (p ∷ ps) = IsRead (line_of p) (words_in p) × AllRead ps

all_read : (ps : List Printed) → All IsInRange ps → AllRead ps
all_read [] h = tt
all_read (p ∷ ps) h = (is_read p (h 0 p (omega arith)), all_read ps (λ k d lt. h (suc k) d (omega arith)))

are_quiet : (ps : List Printed) → AllRead ps → AreQuiet ps
are_quiet [] h = tt
are_quiet (p ∷ ps) h = (h.0.quiet.quiet, are_quiet ps h.1)

no_macro_there : (word : Option (List ℕ)) → macro_of word (record { macros = []; texts = []; expansions = []; count = 0 }) ≡ None
no_macro_there None = refl
no_macro_there (Some word) = refl

numbered_line : (line : ℕ) → 1 ≤ line → line < 2 ^ 32 → is_line_number line ≡ true
numbered_line line low high = grind (arith, nat_tests)

-- ---- one line more

module _ (files : Files) (number : ℕ) (text : List ℕ) (good : is_file_name (file_name files number) ≡ true) where
  abbrev rows : ℕ → List Printed → List Row
  rows line ps = rows_from number line (map line_of ps)

  abbrev from_lines : ℕ → List Printed → ℕ → Config
  from_lines line ps left = behind_lines files (table (no_lines).progress) number text (rows line ps) left

  -- what lines have made that have these words
  record Made (a : LinesSoFar) (ws : List ℕ) : Type 0 where
    pub marks : List ModuleMark
    pub origins : List (FileLine (List ℕ))
    pub items : List PendingItem
    pub names : List (List ℕ)
    pub used : IsUsed (file_name files number) names
    pub is : a.progress ≡ standing (length ws) marks origins items names
    pub emits : Emits items ws

  read_plain : (line ws : List ℕ) → IsRead line ws → IsPlain (start number text).names line
  read_plain line ws h = record { no_directive = h.quiet.unmoved; no_macro = no_macro_there (first_word line); no_name = λ k. refl; no_mark = λ k. never_mark line k h.quiet.quiet; short = h.quiet.short }

  -- a line is passed
  passed_line : (line : List ℕ) (at : ℕ) (more ws : List ℕ) (a : LinesSoFar) → IsRead line more → is_line_number at ≡ true → length ws + length more ≤ 65536 → Made a ws
      → (b : LinesSoFar) × (pass_line (record { file = file_name files number; line = at; text = line }) a ≡ Ok b) × Made b (ws ++ more)
  unfolding pass_line
  passed_line line at more ws a h numbered few m =
      let makes = h.makes in
      let sized = h.sized in
      let l : ExpandedLine = record { file = file_name files number; line = at; text = line } in
      let sum = length-append ws more in
      let all : length ws + target_size makes.target (length makes.puts.trees) ≡ length (ws ++ more) = omega (arith, sized, sum) in
      let next = leads (origin_of l) makes.puts.trees (length ws) m.marks m.origins m.items numbered good makes.target m.names m.used (omega (arith, sized, few)) in
      let items = m.items ++ item_at (origin_of l) (length ws) makes.target makes.puts.trees ∷ [] in
      let q : Progress = standing (length ws + target_size makes.target (length makes.puts.trees)) next.marks next.origins items next.names in
      let passing : pass (origin_of l) (record { label = None; act = Put makes.target makes.puts.trees }) a.progress ≡ Ok q = ap (pass (origin_of l) (record { label = None; act = Put makes.target makes.puts.trees })) m.is ∙ next.passes in (
        record { progress = q; entries = a.entries ++ entry_of l a.progress q ∷ [] },
        rw (makes.puts.read, passing) refl,
        record {
          marks = next.marks;
          origins = next.origins;
          items = items;
          names = next.names;
          used = next.used;
          is = ap (λ n. standing n next.marks next.origins items next.names) all;
          emits = subst (λ v. Emits items (ws ++ v)) makes.words_are (emits_more (origin_of l) (length ws) makes.target makes.puts.trees makes.numbers ws m.items makes.puts.valued m.emits);
        },
      )

  -- all lines are passed
  passed_all : (ps : List Printed) (line fuel left : ℕ) (ws : List ℕ) (a : LinesSoFar) → AllRead ps → length ps < fuel → length ps ≤ left → 1 ≤ line → line + length ps < 2 ^ 32 → length ws + length (flat_map words_in ps) ≤ 65536 → Made a ws
      → (b : LinesSoFar) × (passed files fuel (from_lines line ps left) a ≡ Ok b) × Made b (ws ++ flat_map words_in ps)
  unfolding passed
  passed_all ps line zero left ws a h some room low high few m = absurd (omega (arith, some))
  passed_all [] line (suc fuel) left ws a h some room low high few m = (
    a,
    ap (λ r. passed_by (fault_by files r) (given_by files r) (passed files fuel) a) (finishes_empty files (table a.progress) number text left),
    subst (Made a) (sym (append-nil ws)) m,
  )
  passed_all (p ∷ ps) line (suc fuel) left ws a h some room low high few m =
      let row : Row = record { place = record { file = number; line = line }; text = line_of p } in
      let sum = length-append (words_in p) (flat_map words_in ps) in
      let so_far = length-append ws (words_in p) in
      let one = passed_line (line_of p) line (words_in p) ws a h.0 (numbered_line line low (omega (arith, high))) (omega (arith, few, sum)) m in
      let others = passed_all ps (line + 1) fuel (left - 1) (ws ++ words_in p) one.0 h.1 (omega (arith, some)) (omega (arith, room)) (omega arith) (omega (arith, high)) (omega (arith, few, sum, so_far)) one.2 in (
        others.0,
        ap (λ r. passed_by (fault_by files r) (given_by files r) (passed files fuel) a) (first_plain files (table a.progress) row (map Read (rows (line + 1) ps)) (from_lines line (p ∷ ps) left) refl (omega (arith, room)) (read_plain (line_of p) (words_in p) h.0))
            ∙ ap (λ r. r >>= λ b. passed files fuel (from_lines (line + 1) ps (left - 1)) b) one.1
            ∙ others.1,
        subst (Made others.0) (append_assoc ws (words_in p) (flat_map words_in ps)) others.2,
      )

-- ---- the module

some_words : (p : Printed) → 1 ≤ length (words_in p)
some_words (Code i) = omega arith
some_words (Word n) = omega arith
some_words (Pair m n) = omega arith

few_lines : (ps : List Printed) → length ps ≤ length (flat_map words_in ps)
few_lines [] = omega arith
few_lines (p ∷ ps) = let sum = length-append (words_in p) (flat_map words_in ps) in let some = some_words p in let rest = few_lines ps in omega (arith, sum, some, rest)

-- the first line of all
from_start : (files : Files) (name : List ℕ) (ps : List Printed) → text_named files name ≡ Some (source_of ps) → AreQuiet ps
    → start_of files name ≡ Some (behind_lines files (table (no_lines).progress) (file_number files name) (source_of ps) (rows_from (file_number files name) 1 (map line_of ps)) 200000)
from_start files name ps h quiet =
    ap (option_map (start (file_number files name))) h
    ∙ ap (λ ls. Some (behind_lines files (table (no_lines).progress) (file_number files name) (source_of ps) (rows_from (file_number files name) 1 ls) 200000)) (source_lines ps quiet)

-- the module of what lines have made
completed_as : (a : LinesSoFar) (n : ℕ) (marks : List ModuleMark) (origins : List (FileLine (List ℕ))) (items : List PendingItem) (names : List (List ℕ)) (ws : List ℕ) → a.progress ≡ standing n marks origins items names → Emits items ws
    → completed a ≡ Ok (record { contents = module_with (filled (text_section n marks origins) ws ∷ []) [] []; entries = a.entries })
unfolding finished
completed_as a n marks origins items names ws is emits =
    ap (λ p. finished p >>= λ c. Ok (record { contents = c; entries = a.entries })) is
    ∙ ap (λ r. (r >>= λ sections. Ok (module_with sections [] [])) >>= λ c. Ok (record { contents = c; entries = a.entries })) (emits (text_section n marks origins))

-- the one section of the module has the words of all lines, in their order
pub source_words : (files : Files) (name : List ℕ) (ps : List Printed) → text_named files name ≡ Some (source_of ps) → is_file_name name ≡ true → All IsInRange ps → length (flat_map words_in ps) ≤ 65536
    → (a : Assembled) × (assembled files name ≡ Ok a) × IsTextOf (flat_map words_in ps) a.contents
unfolding assembled
source_words files name ps h named in_range few =
    let good = ap is_file_name (named_file files name (source_of ps) h) ∙ named in
    let read = all_read ps in_range in
    let lines_few = few_lines ps in
    let made : Made files (file_number files name) (source_of ps) good no_lines [] = record { marks = []; origins = []; items = []; names = []; used = inl refl; is = refl; emits = λ s. refl } in
    let all = passed_all files (file_number files name) (source_of ps) good ps 1 200001 200000 [] no_lines read (omega (arith, lines_few, few)) (omega (arith, lines_few, few)) (omega arith) (omega (arith, lines_few, few)) (omega (arith, few)) made in
    let m = all.2 in (
      record { contents = module_with (filled (text_section (length (flat_map words_in ps)) m.marks m.origins) (flat_map words_in ps) ∷ []) [] []; entries = all.0.entries },
      ap (λ o. passed_from files name o >>= completed) (from_start files name ps h (are_quiet ps read))
          ∙ ap (λ r. r >>= completed) all.1
          ∙ completed_as all.0 (length (flat_map words_in ps)) m.marks m.origins m.items m.names (flat_map words_in ps) m.is m.emits,
      record { sections = refl; symbols = refl; relocations = refl },
    )
