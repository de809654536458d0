-- The words of a program at its statements read as them.
use Rattle.std.proofs.Common.{◌≡◌, ℕ, suc, ◌+◌, ◌≤◌, ◌<◌, Bool, true, false, not, ◌&&◌, ◌||◌, cond, leb, eqb, List, [], ◌∷◌, length, map, filter, reverse, slice_index, Option, Some, None, refl, sym, ap, ◌∙◌, subst, arith}
use Rattle.std.specs.Prelude.{find}
use Rattle.std.specs.FinMap as finite
use Rattle.std.specs.List.{All, AllByRecursion, Contains, fold, slice_get}
use Rattle.std.specs.Ordering.{nat_cmp}
use Rattle.std.specs.Option.{option_map_or}
use Rattle.std.proofs.lemmas.Bool.{eq-eqb, eqb-true}
use Rattle.std.proofs.lemmas.Bool.Decides.{nat_tests}
use Rattle.std.proofs.lemmas.List.Elements.{All-contains, All-from_recursion}
use Rattle.std.proofs.lemmas.Option.{slice_get-get_or}
use Rattle.std.proofs.lemmas.Simd.{map-map}
use Rattle.c25_run_laws.proofs.Sizes.{some_word}
use Rattle.c25_meaning_instructions.proofs.RelocatedFields.{number_below}
use Rattle.c25_meaning_assembly.specs.Addresses.{ends_first, in_order, relocation_at}
use Rattle.c25_meaning_linking.specs.Command.{CommandData}
use Rattle.c25_meaning_common.specs.Fields.{field_number}
use Rattle.c25_meaning_expansion.specs.Files.{Files}
use Rattle.c25_meaning_assembly.specs.InstructionStatements.{Instruction, insn_with_zeros}
use Rattle.c25_meaning_linking.specs.Linking.{ImageData, IsProgram, HasWords}
use Rattle.c25_meaning_objects.specs.Module.{Contents, IsModule, SectionData, body_words, each_fits, has_sections, last_of, lists_fit, mark_after, mark_fits, section_fits}
use Rattle.c25_meaning_objects.specs.Module as contents
use Rattle.c25_meaning_linking.specs.Place.{Place, page_of, part_base}
use Rattle.c25_meaning_language.specs.Statement.{insn_of}
use Rattle.c25_meaning_instructions.specs.Table.{Reads}
use Rattle.c25_meaning_processor.specs.Statements.{Statement, loaded_statement, loaded_statements}
use Rattle.c25_meaning_linking.specs.Words.{is_relocation_at, linked_word, relocated, section_base, section_page}
use Rattle.c25_meaning_assembly.specs.declared.assembly.Address.{Address}
use Rattle.c25_meaning_assembly.specs.declared.assembly.Target.TheVariants as target
use Rattle.c25_meaning_objects.specs.declared.object.ModuleMark.{ModuleMark}
use Rattle.c25_meaning_objects.specs.declared.object.Relocation.{Relocation}
use Rattle.c25_meaning_language.specs.declared.statement.Form.{Form}
use Rattle.c25_meaning_language.proofs.Numbers.{size_of_form}
use Rattle.c25_laws.proofs.FieldsFilled.{AreApart, apart, fill, fill_none, fill_one, filled_reads, place}
use Rattle.c25_linking_laws.proofs.Members.{behind_in, each_in, first_in, fits_in, found_in, from_filter, from_map, from_reversed, in_filter, in_map, in_reversed, none_found}
use Rattle.c25_laws.proofs.SourcesRead.{AreRead, IsRead, sources_read}
use Rattle.c25_laws.proofs.StatementWords.{both_hold}
use Rattle.c25_laws.proofs.StatementsOfSources.{HasOperands}
use Rattle.c25_laws.specs.ModuleStatements.{AreStatements, IsAssembled, IsWithin, mark_of, relocations_in, word_at, words_of_statement}
use Rattle.c25_laws.proofs.SheetStatements.{sheet_statements, statements_in, address_value, module_statements, operand_numbers, placed_statement, statements_by}
use Rattle.c25_laws.proofs.StatementsUnder.{statements_are}
use Rattle.c25_laws.specs.ProgramStatements.{AreModulesOf, PlacedStatement, ReadsAs, all_statements, as_copied, as_loaded, page_statements, program_statements, runs_in_b0, runs_in_place, split_by_run, stands_on}

-- the words of a section, if there is one
abbrev words_by : Option SectionData → List ℕ
words_by o = elim o [ None ↦ [] | Some s ↦ body_words s.body ]

both : (a b : Bool) → (a && b) ≡ true → (a ≡ true) × (b ≡ true)
both true b h = (refl, h)
both false b h = absurd cc

-- ---- relocations of a statement

-- addresses in the order of their words are those addresses
in_words : (i : Instruction) (a : Address) → Contains i.sheet.addresses a → Contains (relocations_in i) (relocation_at (target.Instruction i.form) i.section i.offset a)
in_words i a c = in_map (relocation_at (target.Instruction i.form) i.section i.offset) (in_order (target.Instruction i.form) i.sheet.addresses) a (ordered i.form)
  where
    by : (b : Bool) → Contains (cond b (reverse i.sheet.addresses) i.sheet.addresses) a
    by true = in_reversed i.sheet.addresses a c
    by false = c

    ordered : (f : Form) → Contains (in_order (target.Instruction f) i.sheet.addresses) a
    ordered f = by (ends_first (target.Instruction f))

of_words : (i : Instruction) (r : Relocation) → Contains (relocations_in i) r → (a : Address) × Contains i.sheet.addresses a × (relocation_at (target.Instruction i.form) i.section i.offset a ≡ r)
of_words i r c =
    let g = from_map (relocation_at (target.Instruction i.form) i.section i.offset) (in_order (target.Instruction i.form) i.sheet.addresses) r c in
    (g.0, by g.0 (ends_first (target.Instruction i.form)) g.1, g.2)
  where
    by : (a : Address) (b : Bool) → Contains (cond b (reverse i.sheet.addresses) i.sheet.addresses) a → Contains i.sheet.addresses a
    by a true c = from_reversed i.sheet.addresses a c
    by a false c = c

-- ---- the linked words of a statement

module _ (modules : List Contents) (places : List Place) (number : ℕ) (m : Contents) (i : Instruction) (h : IsAssembled m i) (o : HasOperands i) where
  -- what the field of an address holds
  abbrev value : Address → ℕ
  value a = field_number a.kind (address_value modules places number m a)

  separate : AreApart i.form i.sheet.addresses
  separate = apart i.form i.sheet.numbers i.sheet.addresses o.few o.addresses

  at_word : (k : ℕ) (r : Relocation) → is_relocation_at i.section (i.offset + k) r ≡ true → (r.section ≡ i.section) × (r.offset ≡ i.offset + k)
  at_word k r e = let t = both (eqb r.section i.section) (eqb r.offset (i.offset + k)) e in (eqb-true r.section i.section t.0, eqb-true r.offset (i.offset + k) t.1)

  is_at : (k : ℕ) (a : Address) → place i.form a ≡ k → is_relocation_at i.section (i.offset + k) (relocation_at (target.Instruction i.form) i.section i.offset a) ≡ true
  is_at k a e = rw (eq-eqb i.section i.section refl, eq-eqb (i.offset + place i.form a) (i.offset + k) (ap (λ n. i.offset + n) e)) refl

  linked_by : (k word : ℕ) (f : Option Relocation) → k < words_of_statement i → find (is_relocation_at i.section (i.offset + k)) m.relocations ≡ f → fold (fill value i.form k) word i.sheet.addresses ≡ relocated modules places number m f word
  linked_by k word None l e =
      fill_none value i.form k word i.sheet.addresses
      (λ a c at. none_found (is_relocation_at i.section (i.offset + k)) m.relocations (relocation_at (target.Instruction i.form) i.section i.offset a) e
      (All-contains (Contains m.relocations) (relocations_in i) (relocation_at (target.Instruction i.form) i.section i.offset a) h.relocated (in_words i a c)) (is_at k a at))
  linked_by k word (Some r) l e =
      let found = found_in (is_relocation_at i.section (i.offset + k)) m.relocations r e in
      let at = at_word k r found.1 in
      let offset = at.1 in
      let within : IsWithin i r = record { section_is = at.0; covers = record { from = omega (arith, offset); upto = omega (arith, offset, l) } } in
      let a = of_words i r (h.own r found.0 within) in
      let there = ap (λ (x : Relocation). x.offset) a.2 in
      let place_is : place i.form a.0 ≡ k = omega (arith, there, offset) in
      via a.0 a.1 a.2 place_is
    where
      via : (a : Address) → Contains i.sheet.addresses a → relocation_at (target.Instruction i.form) i.section i.offset a ≡ r → place i.form a ≡ k → fold (fill value i.form k) word i.sheet.addresses ≡ relocated modules places number m (Some r) word
      via a c same at = fill_one value i.form k word i.sheet.addresses a separate c at ∙ ap (λ (x : Relocation). relocated modules places number m (Some x) word) same

  pub linked : (k word : ℕ) → k < words_of_statement i → fold (fill value i.form k) word i.sheet.addresses ≡ linked_word modules places number m i.section (i.offset + k) word
  linked k word l = linked_by k word (find (is_relocation_at i.section (i.offset + k)) m.relocations) l refl

  -- the words with their fields filled read as the statement with its numbers
  pub reads : Reads (fold (fill value i.form 0) (word_at m i.section i.offset) i.sheet.addresses) (fold (fill value i.form 1) (word_at m i.section (i.offset + 1)) i.sheet.addresses)
      (insn_of i.form (operand_numbers modules places number m i))
  reads =
      filled_reads value i.form i.sheet.numbers 0 i.sheet.addresses (word_at m i.section i.offset) (word_at m i.section (i.offset + 1))
      (λ a. number_below a.kind (address_value modules places number m a)) o.few o.addresses h.reads

-- ---- where a statement stands in its module

pub record HasRoom (m : Contents) (i : Instruction) : Type 0 where
  pub section : SectionData
  pub section_is : slice_get m.sections i.section ≡ Some section
  pub some : 1 ≤ words_of_statement i
  pub room : i.offset + words_of_statement i ≤ length (body_words section.body)

marked : (m : Contents) (is : List Instruction) (i : Instruction) → AreStatements m is → Contains is i → Contains m.marks (mark_of i)
marked m is i h c =
    let p : Instruction → Bool = λ x. eqb x.section i.section in
    let own = in_map mark_of (filter p is) i (in_filter p is i c (eq-eqb i.section i.section refl)) in
    (from_filter (λ (mark : ModuleMark). eqb mark.section i.section) m.marks (mark_of i) (subst (λ (xs : List ModuleMark). Contains xs (mark_of i)) (sym (h.marks i.section)) own)).0

marks_of_module : (m : Contents) → IsModule m → each_fits (mark_fits m.sections) [] m.marks ≡ true
marks_of_module m h = (both _ _ (both (each_fits section_fits [] m.sections) _ (both (has_sections m) (lists_fit m) h.lists).1).1).0

some_size : (i : Instruction) → 1 ≤ words_of_statement i
some_size i = let s = some_word (insn_with_zeros i) in let e = size_of_form i.form i.sheet.numbers in omega (arith, s, e)

room_in : (m : Contents) (is : List Instruction) (i : Instruction) → IsModule m → AreStatements m is → Contains is i → i.offset + words_of_statement i ≤ length (contents.words_at m.sections i.section)
room_in m is i module_is h c =
    let mark = mark_of i in
    let fits = fits_in (mark_fits m.sections) [] m.marks mark (marks_of_module m module_is) (marked m is i h c) in
    let front = both ((eqb mark.size 1 || eqb mark.size 2) && leb (mark.offset + mark.size) (length (contents.words_at m.sections mark.section))) (mark_after (last_of fits.0) mark) fits.1 in
    let room = both (eqb mark.size 1 || eqb mark.size 2) (leb (mark.offset + mark.size) (length (contents.words_at m.sections mark.section))) front.0 in
    let le = room.1 in
    grind (arith, nat_tests)

pub has_room : (m : Contents) (is : List Instruction) (i : Instruction) → IsModule m → AreStatements m is → Contains is i → HasRoom m i
has_room m is i module_is h c = by (slice_get m.sections i.section) refl (room_in m is i module_is h c) (some_size i)
  where
    by : (o : Option SectionData) → slice_get m.sections i.section ≡ o → i.offset + words_of_statement i ≤ length (contents.words_at m.sections i.section) → 1 ≤ words_of_statement i → HasRoom m i
    by None e l some = let none : contents.words_at m.sections i.section ≡ [] = ap words_by e in let n = ap length none in absurd (omega (arith, n, l, some))
    by (Some s) e l some = record { section = s; section_is = e; some = some; room = let n = ap (λ o. length (words_by o)) e in omega (arith, n, l) }

-- ---- all statements

-- what holds of each statement of each module holds of all
pub each_placed : (modules : List Contents) (places : List Place) (P : PlacedStatement → Type 0)
    → ((number : ℕ) (m : Contents) (is : List Instruction) (i : Instruction) → slice_get modules number ≡ Some m → IsRead m is → Contains is i → P (placed_statement modules places number m i))
    → (files : Files) (names : List (List ℕ)) → AreModulesOf files names modules → (s : PlacedStatement) → Contains (all_statements files names modules places) s → P s
each_placed modules places P h files names of s c =
    each_in P (sheet_statements files names modules places) s
    (from 0 modules (map (statements_in files) names) (λ k m at. (let z : 0 + k ≡ k = omega arith in ap (slice_get modules) z) ∙ at) (sources_read files names modules of))
    (subst (λ (all : List PlacedStatement). Contains all s) (statements_are files names modules places of) c)
  where
    from : (number : ℕ) (ms : List Contents) (all : List (List Instruction)) → ((k : ℕ) (m : Contents) → slice_get ms k ≡ Some m → slice_get modules (number + k) ≡ Some m) → AreRead ms all
        → AllByRecursion P (statements_by modules places number ms all)
    from number [] [] at h = tt
    from number [] (is ∷ all) at h = absurd h
    from number (m ∷ ms) [] at h = absurd h
    from number (m ∷ ms) (is ∷ all) at read =
        both_hold P (module_statements modules places number m is) (statements_by modules places (number + 1) ms all)
        (own is (λ i c. c))
        (from (number + 1) ms all (λ k c e. ap (slice_get modules) (next k) ∙ at (suc k) c e) read.1)
      where
        next : (k : ℕ) → number + 1 + k ≡ number + suc k
        next k = omega arith

        here : slice_get modules number ≡ Some m
        here = let z : number ≡ number + 0 = omega arith in ap (slice_get modules) z ∙ at 0 m refl

        own : (some : List Instruction) → ((i : Instruction) → Contains some i → Contains is i) → AllByRecursion P (map (placed_statement modules places number m) some)
        own [] f = tt
        own (i ∷ some) f = (h number m is i here read.0 (f i (first_in i some)), own some (λ j c. f j (behind_in i j some c)))

-- ---- where a statement stands in the program

module _ (modules : List Contents) (places : List Place) (q : ℕ) (page : finite.FinMap nat_cmp ℕ) (has : HasWords modules places q page) where
  -- a word of a statement in the program
  word_there : (number : ℕ) (m : Contents) (i : Instruction) (k : ℕ) → slice_get modules number ≡ Some m → stands_on q (placed_statement modules places number m i) ≡ true → HasRoom m i → k < words_of_statement i
      → finite.get page (section_base modules places number m i.section + i.offset + k) ≡ Some (linked_word modules places number m i.section (i.offset + k) (word_at m i.section (i.offset + k)))
  word_there number m i k owner on h l =
      let s = h.section in
      let room = h.room in
      let below : i.offset + k < length (body_words s.body) = omega (arith, l, room) in
      let base : section_base modules places number m i.section ≡ part_base modules places number s.name = ap (λ (o : Option SectionData). option_map_or (λ x. part_base modules places number x.name) o 0) h.section_is in
      let page_is : section_page places m i.section ≡ page_of s.name places = ap (λ (o : Option SectionData). option_map_or (λ x. page_of x.name places) o 0) h.section_is in
      let zero_is = eqb-true (section_page places m i.section) q on in
      let ws : contents.words_at m.sections i.section ≡ body_words s.body = ap words_by h.section_is in
      (has (section_base modules places number m i.section + i.offset + k) (linked_word modules places number m i.section (i.offset + k) (word_at m i.section (i.offset + k)))).1
      (record {
        number = number;
        index = i.section;
        owner = m;
        section = s;
        offset = i.offset + k;
        before = word_at m i.section (i.offset + k);
        part = record { owner_is = owner; section_is = h.section_is };
        word_is = slice_get-get_or (body_words s.body) (i.offset + k) 0 below ∙ ap (λ (xs : List ℕ). Some (slice_index xs (i.offset + k))) (sym ws);
        page_is = sym zero_is ∙ page_is;
        address_is = omega (arith, base);
        linked = refl;
      })

  statement_reads : (number : ℕ) (m : Contents) (is : List Instruction) (i : Instruction) → slice_get modules number ≡ Some m → IsRead m is → Contains is i → stands_on q (placed_statement modules places number m i) ≡ true
      → ReadsAs page (as_loaded (placed_statement modules places number m i))
  statement_reads number m is i owner h c on =
      let assembled = All-contains (IsAssembled m) is i (h.said).each c in
      let operands = each_in HasOperands is i h.operands c in
      let room = has_room m is i h.module_is h.said c in
      let some = room.some in
      let zero_is : i.offset + 0 ≡ i.offset = omega arith in
      let start : section_base modules places number m i.section + i.offset + 0 ≡ section_base modules places number m i.section + i.offset = omega arith in
      let value : Address → ℕ = λ a. field_number a.kind (address_value modules places number m a) in
      let size = size_of_form i.form (operand_numbers modules places number m i) in
      record {
        first = fold (fill value i.form 0) (word_at m i.section i.offset) i.sheet.addresses;
        second = fold (fill value i.form 1) (word_at m i.section (i.offset + 1)) i.sheet.addresses;
        first_is =
            sym (ap Some (ap (λ n. fold (fill value i.form 0) (word_at m i.section n) i.sheet.addresses) (sym zero_is) ∙ linked modules places number m i assembled operands 0 (word_at m i.section (i.offset + 0)) (omega (arith, some)))
            ∙ sym (word_there number m i 0 owner on room (omega (arith, some))) ∙ ap (finite.get page) start);
        second_is = λ two.
            let more : 1 < words_of_statement i = omega (arith, two, size) in
            sym (ap Some (linked modules places number m i assembled operands 1 (word_at m i.section (i.offset + 1)) more) ∙ sym (word_there number m i 1 owner on room more));
        reads = reads modules places number m i assembled operands;
      }

-- the words of a page read as its sources' statements
pub words_read : (files : Files) (names : List (List ℕ)) (modules : List Contents) (places : List Place) (q : ℕ) (page : finite.FinMap nat_cmp ℕ) → AreModulesOf files names modules → HasWords modules places q page
    → (s : PlacedStatement) → Contains (all_statements files names modules places) s → stands_on q s ≡ true → ReadsAs page (as_loaded s)
words_read files names modules places q page of has =
    each_placed modules places (λ s. stands_on q s ≡ true → ReadsAs page (as_loaded s)) (λ number m is i. statement_reads modules places q page has number m is i) files names of

-- ---- statements of one kind

chosen_read : (P : Statement → Type 0) (all : List PlacedStatement) (test : PlacedStatement → Bool) → ((s : PlacedStatement) → Contains all s → test s ≡ true → P (as_loaded s)) → AllByRecursion P (map as_loaded (filter test all))
chosen_read P all test h = by (filter test all) (λ s c. let f = from_filter test all s c in h s f.0 f.1)
  where
    by : (some : List PlacedStatement) → ((s : PlacedStatement) → Contains some s → P (as_loaded s)) → AllByRecursion P (map as_loaded some)
    by [] f = tt
    by (s ∷ some) f = (f s (first_in s some), by some (λ t c. f t (behind_in s t some c)))

page_words_are : (files : Files) (names : List (List ℕ)) (modules : List Contents) (places : List Place) (q : ℕ) (page : finite.FinMap nat_cmp ℕ) → AreModulesOf files names modules → HasWords modules places q page
    → All (ReadsAs page) (page_statements q files names modules places)
page_words_are files names modules places q page of has =
    All-from_recursion (ReadsAs page) (page_statements q files names modules places)
    (chosen_read (ReadsAs page) (all_statements files names modules places) (stands_on q) (words_read files names modules places q page of has))

-- the words of page 0 of a program read as its sources' statements
pub words_are : (files : Files) (names : List (List ℕ)) (modules : List Contents) (command : CommandData) (image : ImageData) → AreModulesOf files names modules → (p : IsProgram modules command image)
    → All (ReadsAs image.program) (loaded_statements (program_statements files names modules p.places))
words_are files names modules command image of p =
    let all = all_statements files names modules p.places in
    let read = words_read files names modules p.places 0 image.program of p.program in
    let plain = chosen_read (ReadsAs image.program) all runs_in_place (λ s c on. read s c (both (stands_on 0 s) (not s.elsewhere) on).0) in
    let copied = chosen_read (ReadsAs image.program) all runs_in_b0 (λ s c on. read s c (both (stands_on 0 s) s.elsewhere on).0) in
    All-from_recursion (ReadsAs image.program) (loaded_statements (split_by_run all))
    (both_hold (ReadsAs image.program) (map loaded_statement (map as_copied (filter runs_in_b0 all))) (map as_loaded (filter runs_in_place all))
    (subst (AllByRecursion (ReadsAs image.program)) (sym (map-map loaded_statement as_copied (filter runs_in_b0 all))) copied) plain)

-- the words of page 1 of a program read as its sources' statements
pub stored_words_are : (files : Files) (names : List (List ℕ)) (modules : List Contents) (command : CommandData) (image : ImageData) → AreModulesOf files names modules → (p : IsProgram modules command image)
    → All (ReadsAs image.store) (page_statements 1 files names modules p.places)
stored_words_are files names modules command image of p = page_words_are files names modules p.places 1 image.store of p.store
