-- A source of lines that expansion leaves alone passes the statements of these lines, one after another.
use Rattle.std.proofs.Common.{◌≡◌, ℕ, zero, suc, ◌+◌, ◌-◌, ◌<◌, ◌≤◌, true, List, [], ◌∷◌, ◌++◌, length, map, Option, Some, None, Result, Ok, Err, refl, sym, ap, ◌∙◌, subst, arith, ◌^◌}
use Rattle.std.proofs.lemmas.Bool.Decides.{nat_tests}
use Rattle.std.specs.Option.{option_map}
use Rattle.std.specs.Str.Lines.{lines}
use Rattle.c25_meaning_assembly.specs.AssemblyLine.{Statement, read_statement}
use Rattle.c25_meaning_assembly.specs.Emission.{at_origin}
use Rattle.c25_meaning_assembly.specs.ModuleOfSource.{LinesSoFar, entry_of, no_lines, origin_of, pass_line, passed, passed_by, passed_from, read_and_pass}
use Rattle.c25_meaning_assembly.specs.Sections.{Progress, is_line_number, pass, start, table}
use Rattle.c25_meaning_common.specs.Results.{◌>>=◌}
use Rattle.c25_meaning_common.specs.declared.placed.FileLine.{FileLine}
use Rattle.c25_meaning_expansion.specs.Expansion.{Config, Read}
use Rattle.c25_meaning_expansion.specs.ExpansionAnswers.{ExpandedLine, fault_by, given_by}
use Rattle.c25_meaning_expansion.specs.ExpansionRules.{macro_of}
use Rattle.c25_meaning_expansion.specs.ExpansionRuns as runs
use Rattle.c25_meaning_expansion.specs.ExpansionRuns.{start_of}
use Rattle.c25_meaning_expansion.specs.Files.{Files, file_name, text_named}
use Rattle.c25_meaning_expansion.specs.Rows.{Row, file_number, rows_from}
use Rattle.c25_meaning_language.specs.Line.{first_word}
use Rattle.c25_meaning_language.specs.declared.statement.FaultKind.{FaultKind}
use Rattle.c25_laws.specs.ProgramStatements.{lines_of}
use Rattle.c25_module_laws.proofs.ResultSteps.{bound}
use Rattle.c25_print_laws.proofs.Lines.{IsQuiet}
use Rattle.c25_print_laws.proofs.PlainLines.{behind_lines, finishes_empty, first_plain}
use Rattle.c25_print_laws.proofs.PrintedSources.{named_file}
use Rattle.c25_print_laws.proofs.SourceLines.{first_line, never_mark}
use Rattle.c25_print_laws.specs.ExpansionLaws.{IsPlain}
use Rattle.c25_layout_laws.proofs.Passable.{IsGood, Passable}

-- a line is read as a statement, and expansion leaves it alone
pub record IsLine (text : List ℕ) (s : Statement) : Type 0 where
  pub read : read_statement text ≡ Ok s
  pub quiet : IsQuiet text

abbrev pub AreLines : List (List ℕ) → List Statement → Type 0
AreLines [] [] = Unit {0}
AreLines (t ∷ ts) (s ∷ ss) = IsLine t s × AreLines ts ss
AreLines _ _ = ⊥

pub both_lines : (ts us : List (List ℕ)) (ss rs : List Statement) → AreLines ts ss → AreLines us rs → AreLines (ts ++ us) (ss ++ rs)
both_lines [] us [] rs h k = k
both_lines [] us (s ∷ ss) rs h k = absurd h
both_lines (t ∷ ts) us [] rs h k = absurd h
both_lines (t ∷ ts) us (s ∷ ss) rs h k = (h.0, both_lines ts us ss rs h.1 k)

-- lines as a text
abbrev pub text_of_lines : List (List ℕ) → List ℕ
text_of_lines [] = []
text_of_lines (t ∷ ts) = t ++ 10 ∷ text_of_lines ts

lines_are : (ts : List (List ℕ)) (ss : List Statement) → AreLines ts ss → lines (text_of_lines ts) ≡ ts
lines_are [] ss h = refl
lines_are (t ∷ ts) [] h = absurd h
lines_are (t ∷ ts) (s ∷ ss) h = first_line t (text_of_lines ts) h.0.quiet.quiet ∙ ap (λ (ls : List (List ℕ)). t ∷ ls) (lines_are ts ss h.1)

-- statements are passed one after another, whatever lines they come from
abbrev pub Passes : List Statement → Progress → Progress → Type 0
Passes [] p q = p ≡ q
Passes (s ∷ ss) p q = (origin : FileLine (List ℕ)) × (r : Progress) × (pass origin s p ≡ Ok r) × Passes ss r q

pub passes_both : (ss rs : List Statement) (p q : Progress) → Passes (ss ++ rs) p q → (m : Progress) × Passes ss p m × Passes rs m q
passes_both [] rs p q h = (p, refl, h)
passes_both (s ∷ ss) rs p q (origin, r, passed, rest) =
    let b = passes_both ss rs r q rest in
    (b.0, (origin, r, passed, b.1), b.2)

no_macro_there : (word : Option (List ℕ)) → macro_of word (record { macros = []; texts = []; expansions = []; count = 0 }) ≡ None
no_macro_there None = refl
no_macro_there (Some word) = refl

untold : {A : Type 0} (origin : FileLine (List ℕ)) (r : Result A FaultKind) (x : A) → at_origin origin r ≡ Ok x → r ≡ Ok x
untold origin (Ok y) x e = cc
untold origin (Err f) x e = absurd (cc)

module _ (files : Files) (number : ℕ) (text : List ℕ) where
  abbrev from_lines : ℕ → List (List ℕ) → ℕ → Config
  from_lines line ts left = behind_lines files (table (no_lines).progress) number text (rows_from number line ts) left

  plain : (t : List ℕ) (s : Statement) → IsLine t s → IsPlain (runs.start number text).names t
  plain t s h = record { no_directive = h.quiet.unmoved; no_macro = no_macro_there (first_word t); no_name = λ k. refl; no_mark = λ k. never_mark t k h.quiet.quiet; short = h.quiet.short }

  one_passed : (l : ExpandedLine) (s : Statement) (a b : LinesSoFar) → read_statement l.text ≡ Ok s → pass_line l a ≡ Ok b → pass (origin_of l) s a.progress ≡ Ok b.progress
  unfolding pass_line
  one_passed l s a b read e =
      let made : Progress → LinesSoFar = λ p. record { progress = p; entries = a.entries ++ entry_of l a.progress p ∷ [] } in
      let p = bound (read_and_pass l a.progress) (λ p. Ok (made p)) b e in
      let same : made p.0 ≡ b = let last = p.2 in cc in
      let passing = untold (origin_of l) (read_statement l.text >>= λ s. pass (origin_of l) s a.progress) p.0 p.1 in
      sym (ap (λ (r : Result Statement FaultKind). r >>= λ s. pass (origin_of l) s a.progress) read) ∙ passing ∙ ap (λ (x : LinesSoFar). Ok x.progress) same

  passed_all : (ts : List (List ℕ)) (ss : List Statement) (line fuel left : ℕ) (a b : LinesSoFar) → AreLines ts ss → length ts < fuel → length ts ≤ left → passed files fuel (from_lines line ts left) a ≡ Ok b → Passes ss a.progress b.progress
  unfolding passed
  passed_all ts ss line zero left a b h some room e = absurd (omega (arith, some))
  passed_all [] (s ∷ ss) line (suc fuel) left a b h some room e = absurd h
  passed_all (t ∷ ts) [] line (suc fuel) left a b h some room e = absurd h
  passed_all [] [] line (suc fuel) left a b h some room e =
      let ends = ap (λ r. passed_by (fault_by files r) (given_by files r) (passed files fuel) a) (finishes_empty files (table a.progress) number text left) in
      let done : Ok a ≡ Ok b = sym ends ∙ e in
      let same : a ≡ b = cc in
      ap (λ (x : LinesSoFar). x.progress) same
  passed_all (t ∷ ts) (s ∷ ss) line (suc fuel) left a b h some room e =
      let row : Row = record { place = record { file = number; line = line }; text = t } in
      let given = ap (λ r. passed_by (fault_by files r) (given_by files r) (passed files fuel) a) (first_plain files (table a.progress) row (map Read (rows_from number (line + 1) ts)) (from_lines line (t ∷ ts) left) refl (omega (arith, room)) (plain t s h.0)) in
      let l : ExpandedLine = record { file = file_name files number; line = line; text = t } in
      let both : (pass_line l a >>= λ b. passed files fuel (from_lines (line + 1) ts (left - 1)) b) ≡ Ok b = sym given ∙ e in
      let one = bound (pass_line l a) (λ b. passed files fuel (from_lines (line + 1) ts (left - 1)) b) b both in
      (origin_of l, one.0.progress, one_passed l s a one.0 h.0.read one.1, passed_all ts ss (line + 1) fuel (left - 1) one.0 b h.1 (omega (arith, some)) (omega (arith, room)) one.2)

-- the lines of a source are passed from the start
pub source_passes : (files : Files) (name : List ℕ) (ts : List (List ℕ)) (ss : List Statement) (p : Progress) → text_named files name ≡ Some (text_of_lines ts) → AreLines ts ss → length ts ≤ 200000 → lines_of files name ≡ Ok p → Passes ss start p
source_passes files name ts ss p named are few e =
    let number = file_number files name in
    let begins : start_of files name ≡ Some (from_lines files number (text_of_lines ts) 1 ts 200000) =
    ap (option_map (runs.start number)) named ∙ ap (λ (ls : List (List ℕ)). Some (behind_lines files (table (no_lines).progress) number (text_of_lines ts) (rows_from number 1 ls) 200000)) (lines_are ts ss are) in
    let a = bound (passed_from files name (start_of files name)) (λ a. Ok a.progress) p e in
    let same : (a.0).progress ≡ p = let last = a.2 in cc in
    let all : passed files 200001 (from_lines files number (text_of_lines ts) 1 ts 200000) no_lines ≡ Ok a.0 = sym (ap (passed_from files name) begins) ∙ a.1 in
    subst (Passes ss start) same (passed_all files number (text_of_lines ts) ts ss 1 200001 200000 no_lines a.0 are (omega (arith, few)) few all)

-- ---- that they are passed

numbered_line : (line : ℕ) → 1 ≤ line → line < 2 ^ 32 → is_line_number line ≡ true
numbered_line line low high = grind (arith, nat_tests)

module _ (files : Files) (number : ℕ) (text : List ℕ) where
  passes_line : (t : List ℕ) (s : Statement) (line : ℕ) (a : LinesSoFar) (r : Progress) → read_statement t ≡ Ok s → pass (record { file = file_name files number; line = line }) s a.progress ≡ Ok r
      → (b : LinesSoFar) × (pass_line (record { file = file_name files number; line = line; text = t }) a ≡ Ok b) × (b.progress ≡ r)
  unfolding pass_line
  passes_line t s line a r read passes =
      let l : ExpandedLine = record { file = file_name files number; line = line; text = t } in
      (record { progress = r; entries = a.entries ++ entry_of l a.progress r ∷ [] }, rw (read, passes) refl, refl)

  -- a line is passed, and further ones
  go_on : (l : ExpandedLine) (c d : Config) (fuel : ℕ) (a b : LinesSoFar) → passed files (suc fuel) c a ≡ (pass_line l a >>= λ b. passed files fuel d b) → pass_line l a ≡ Ok b
      → ((x : LinesSoFar) × (passed files fuel d b ≡ Ok x) × IsGood (file_name files number) x.progress) → (x : LinesSoFar) × (passed files (suc fuel) c a ≡ Ok x) × IsGood (file_name files number) x.progress
  go_on l c d fuel a b given one (x, rest, good) = (x, given ∙ ap (λ r. r >>= λ b. passed files fuel d b) one ∙ rest, good)

  all_passed : (ts : List (List ℕ)) (ss : List Statement) (line fuel left : ℕ) (a : LinesSoFar) → AreLines ts ss → Passable (file_name files number) ss a.progress → length ts < fuel → length ts ≤ left → 1 ≤ line → line + length ts < 2 ^ 32
      → (b : LinesSoFar) × (passed files fuel (from_lines files number text line ts left) a ≡ Ok b) × IsGood (file_name files number) b.progress
  unfolding passed
  all_passed ts ss line zero left a h can some room low high = absurd (omega (arith, some))
  all_passed [] (s ∷ ss) line (suc fuel) left a h can some room low high = absurd h
  all_passed (t ∷ ts) [] line (suc fuel) left a h can some room low high = absurd h
  all_passed [] [] line (suc fuel) left a h can some room low high = (
    a,
    ap (λ r. passed_by (fault_by files r) (given_by files r) (passed files fuel) a) (finishes_empty files (table a.progress) number text left),
    can,
  )
  all_passed (t ∷ ts) (s ∷ ss) line (suc fuel) left a h can some room low high =
      let row : Row = record { place = record { file = number; line = line }; text = t } in
      let given = ap (λ r. passed_by (fault_by files r) (given_by files r) (passed files fuel) a) (first_plain files (table a.progress) row (map Read (rows_from number (line + 1) ts)) (from_lines files number text line (t ∷ ts) left) refl (omega (arith, room)) (plain files number text t s h.0)) in
      let step = can (record { file = file_name files number; line = line }) refl (numbered_line line low (omega (arith, high))) in
      let one = passes_line t s line a step.0 h.0.read step.1 in
      go_on (record { file = file_name files number; line = line; text = t }) (from_lines files number text line (t ∷ ts) left) (from_lines files number text (line + 1) ts (left - 1)) fuel a one.0 given one.1 (all_passed ts ss (line + 1) fuel (left - 1) one.0 h.1 (subst (Passable (file_name files number) ss) (sym one.2) step.2) (omega (arith, some)) (omega (arith, room)) (omega arith) (omega (arith, high)))

-- the lines of a source are passed, where each statement can pass
pub source_is_passed : (files : Files) (name : List ℕ) (ts : List (List ℕ)) (ss : List Statement) → text_named files name ≡ Some (text_of_lines ts) → AreLines ts ss → length ts ≤ 200000 → Passable name ss start
    → (b : LinesSoFar) × (passed_from files name (start_of files name) ≡ Ok b) × IsGood name b.progress
source_is_passed files name ts ss there are few can =
    let number = file_number files name in
    let file = named_file files name (text_of_lines ts) there in
    let begins : start_of files name ≡ Some (from_lines files number (text_of_lines ts) 1 ts 200000) =
    ap (option_map (runs.start number)) there ∙ ap (λ (ls : List (List ℕ)). Some (behind_lines files (table (no_lines).progress) number (text_of_lines ts) (rows_from number 1 ls) 200000)) (lines_are ts ss are) in
    let all = all_passed files number (text_of_lines ts) ts ss 1 200001 200000 no_lines are (subst (λ (f : List ℕ). Passable f ss start) (sym file) can) (omega (arith, few)) few (omega arith) (omega (arith, few)) in
    (all.0, ap (passed_from files name) begins ∙ all.1, subst (λ (f : List ℕ). IsGood f all.0.progress) file all.2)
