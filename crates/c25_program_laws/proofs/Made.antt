-- The program of modules whose sections have places.
use Rattle.std.proofs.Common.{◌≡◌, ℕ, zero, suc, ◌+◌, ◌-◌, ◌<◌, ◌≤◌, ◌++◌, Bool, true, false, ◌&&◌, cond, nat_le, nat_lt, eqb, eqb-true, List, [], ◌∷◌, length, map, get_or, All, Option, Some, None, Ok, refl, sym, ap, subst, ◌∙◌, arith}
use Rattle.std.specs.FinMap as finite
use Rattle.std.specs.FinMap.{get-empty}
use Rattle.std.specs.List.{slice_get}
use Rattle.std.specs.Ordering.{nat_cmp}
use Rattle.std.proofs.lemmas.Bool.{eqb-false}
use Rattle.std.proofs.lemmas.Bool.Decides.{nat_tests}
use Rattle.c25_link.proofs.Linked.{IsWithinPage, has_one_part, has_room}
use Rattle.c25_link.proofs.Loaded.{all_loaded, module_loaded, none_elsewhere, nothing_loaded, section_loaded, section_passed, words_more}
use Rattle.c25_link.proofs.Marked.{has_marks}
use Rattle.c25_link.proofs.Told.{has_lines}
use Rattle.c25_link.specs.Bases.{HasRoom}
use Rattle.c25_link.specs.Layout.{AreModules, HasOnePart}
use Rattle.c25_link.specs.Lines.{all_places, line_data}
use Rattle.c25_link.specs.Loading.{HasWordsBefore, linked_at, loaded}
use Rattle.c25_link.specs.declared.lines.LinePlace.{LinePlace}
use Rattle.c25_linking_laws.proofs.Named.{module_at}
use Rattle.c25_linking_laws.proofs.Placed.{good_places}
use Rattle.c25_linking_laws.proofs.RunsFit.{has_run_marks}
use Rattle.c25_meaning_image.specs.WordMap.{put_all}
use Rattle.c25_meaning_image.specs.declared.mark.Mark.{Mark}
use Rattle.c25_meaning_image.specs.declared.mark.RunMark.{RunMark}
use Rattle.c25_meaning_linking.specs.Command.{CommandData, IsCommand}
use Rattle.c25_meaning_linking.specs.GoodMap.{IsGoodMap}
use Rattle.c25_meaning_linking.specs.Linking.{HasWords, ImageData, IsProgram, first_spilled, map_of, names_checked}
use Rattle.c25_meaning_linking.specs.Place.{IsPart, Place, page_of, part_base}
use Rattle.c25_meaning_linking.specs.Words.{program_marks, program_run_marks}
use Rattle.c25_meaning_objects.specs.Module.{Contents, IsModule, SectionData, body_words}
use Rattle.c25_program_laws.proofs.Ordered.{sorted}

-- ---- the words of a page

-- so many words from a base on, after others
abbrev put_words : (base : ℕ) (word_at : ℕ → ℕ) (old : List (ℕ × ℕ)) → ℕ → List (ℕ × ℕ)
put_words base word_at old zero = old
put_words base word_at old (suc n) = put_words base word_at old n ++ (base + n, word_at n) ∷ []

put_none : (base : ℕ) (word_at : ℕ → ℕ) (old : Option ℕ) (address : ℕ) → old ≡ loaded base 0 word_at old address
put_none base word_at old address = go (nat_le base address && nat_lt address (base + 0)) refl
  where
    go : (b : Bool) → (nat_le base address && nat_lt address (base + 0)) ≡ b → old ≡ cond b (Some (word_at (address - base))) old
    go true e = let from : base ≤ address = grind (arith, nat_tests, e) in let upto : address < base + 0 = grind (arith, nat_tests, e) in absurd (omega (arith, from, upto))
    go false e = refl

put_get : (base : ℕ) (word_at : ℕ → ℕ) (old : List (ℕ × ℕ)) (n address : ℕ) → finite.get (put_all (put_words base word_at old n)) address ≡ loaded base n word_at (finite.get (put_all old) address) address
put_get base word_at old zero address = put_none base word_at (finite.get (put_all old) address) address
put_get base word_at old (suc n) address =
    let more : n + 1 ≡ suc n = omega arith in
    subst (λ (k : ℕ). finite.get (put_all (put_words base word_at old n ++ (base + n, word_at n) ∷ [])) address ≡ loaded base k word_at (finite.get (put_all old) address) address) more
    (words_more base n (word_at n) (base + n) word_at old (put_words base word_at old n) (put_words base word_at old n ++ (base + n, word_at n) ∷ []) refl refl refl (put_get base word_at old n) address)

module _ (modules : List Contents) (places : List Place) (one : HasOnePart modules places) (page : ℕ) where
  abbrev Before : ℕ → ℕ → List (ℕ × ℕ) → Type 0
  Before number index words = HasWordsBefore modules places number index page (put_all words)

  section_put : (number index : ℕ) (m : Contents) (s : SectionData) (old : List (ℕ × ℕ)) → IsPart modules number index m s → Before number index old → (new : List (ℕ × ℕ)) × Before number (index + 1) new
  section_put number index m s old part before = go (eqb page (page_of s.name places)) refl
    where
      go : (b : Bool) → eqb page (page_of s.name places) ≡ b → (new : List (ℕ × ℕ)) × Before number (index + 1) new
      go true e =
          let base = part_base modules places number s.name in
          let word_at = linked_at modules places number m index (body_words s.body) in
          let new = put_words base word_at old (length (body_words s.body)) in
          (new, section_loaded modules places number index page m s (put_all old) (put_all new) (record { part = part; page_is = eqb-true page (page_of s.name places) e; one = one }) before (put_get base word_at old (length (body_words s.body))))
      go false e = (old, section_passed modules places number index page (put_all old) (none_elsewhere modules places number index page m s part (eqb-false page (page_of s.name places) e)) before)

  sections_put : (number index : ℕ) (m : Contents) (rest : List SectionData) (old : List (ℕ × ℕ)) → slice_get modules number ≡ Some m → ((k : ℕ) → slice_get m.sections (index + k) ≡ slice_get rest k) → length m.sections ≤ index + length rest
      → Before number index old → (new : List (ℕ × ℕ)) × Before (number + 1) 0 new
  sections_put number index m [] old is at all before = (old, module_loaded modules places number index page m (put_all old) is (omega (arith, all)) before)
  sections_put number index m (s ∷ rest) old is at all before =
      let none : index ≡ index + 0 = omega arith in
      let here : slice_get m.sections index ≡ Some s = ap (slice_get m.sections) none ∙ at 0 in
      let one_more = section_put number index m s old (record { owner_is = is; section_is = here }) before in
      sections_put number (index + 1) m rest one_more.0 is (λ k. let same : index + 1 + k ≡ index + suc k = omega arith in ap (slice_get m.sections) same ∙ at (suc k)) (omega (arith, all)) one_more.1

  modules_put : (number : ℕ) (rest : List Contents) (old : List (ℕ × ℕ)) → ((k : ℕ) → slice_get modules (number + k) ≡ slice_get rest k) → length modules ≤ number + length rest → Before number 0 old → (words : finite.FinMap nat_cmp ℕ) × HasWords modules places page words
  modules_put number [] old at all before = (put_all old, all_loaded modules places number page (put_all old) (omega (arith, all)) before)
  modules_put number (m ∷ rest) old at all before =
      let none : number ≡ number + 0 = omega arith in
      let here : slice_get modules number ≡ Some m = ap (slice_get modules) none ∙ at 0 in
      let one_more = sections_put number 0 m m.sections old here (λ k. let same : 0 + k ≡ k = omega arith in ap (slice_get m.sections) same) (omega arith) before in
      modules_put (number + 1) rest one_more.0 (λ k. let same : number + 1 + k ≡ number + suc k = omega arith in ap (slice_get modules) same ∙ at (suc k)) (omega (arith, all)) one_more.1

  pub page_words : (words : finite.FinMap nat_cmp ℕ) × HasWords modules places page words
  page_words = modules_put 0 modules [] (λ k. let same : 0 + k ≡ k = omega arith in ap (slice_get modules) same) (omega arith) (nothing_loaded modules places page (put_all []) (λ address. get-empty nat_cmp address))

-- ---- the program

pub program_of : (modules : List Contents) (command : CommandData) (places : List Place) → All IsModule modules → IsCommand command → names_checked modules command.entry ≡ Ok tt → IsGoodMap modules command places → first_spilled modules places ≡ None
    → (image : ImageData) × IsProgram modules command image
program_of modules command places all is names good fields =
    let are : AreModules modules = λ number m e. module_at modules number m all e in
    let goods = good_places modules command places all is good in
    let room : HasRoom modules places = has_room modules command places good (λ i d lt. let p = goods i d lt in record { page = p.page; base = p.first; end = p.last }) in
    let one : HasOnePart modules places = has_one_part modules command places are good in
    let program = page_words modules places one 0 in
    let store = page_words modules places one 1 in
    let marks = sorted (λ (m : Mark). m.address) (program_marks modules places) in
    let marked = has_marks modules places marks.list are one room marks.same marks.order in
    let run_marks = sorted (λ (m : RunMark). m.run) (program_run_marks modules places) in
    let files : List (List (List ℕ)) = map (λ (c : Contents). c.files) modules in
    let told = sorted (λ (l : LinePlace). l.mark.address) (all_places modules places) in
    let lines = map (line_data files) told.list in
    let image : ImageData = record { program = program.0; store = store.0; marks = marks.list; run_marks = run_marks.list; lines = lines; described = map_of modules command.entry places } in (
      image,
      record {
        places = places;
        names = names;
        good = good;
        fields = fields;
        program = program.1;
        store = store.1;
        marks = marked;
        run_marks = has_run_marks modules command places all is good marks.list run_marks.list marked run_marks.same run_marks.order;
        lines = has_lines modules places files told.list are one room refl told.same told.order;
        described = refl;
      },
    )
