-- Where a program has the words that its sources reserve.
use Rattle.std.proofs.Common.{◌≡◌, ℕ, zero, suc, ◌+◌, ◌≤◌, ◌<◌, ◌%◌, pos, List, [], ◌∷◌, ◌++◌, take, true, false, Option, Some, None, Ok, inl, inr, refl, sym, ap, ◌∙◌, subst, arith}
use Rattle.std.specs.FinMap as finite
use Rattle.std.specs.List.{Contains, slice_get}
use Rattle.std.specs.Option.{option_map_or}
use Rattle.std.specs.Prelude.{is_some, unwrap_or}
use Rattle.std.specs.Ordering.{nat_cmp}
use Rattle.std.proofs.lemmas.Bool.{cases_lt}
use Rattle.std.proofs.lemmas.Option.{slice_get_within}
use Rattle.c25_meaning_assembly.specs.ModuleOfSource.{Assembled, assembled}
use Rattle.c25_meaning_assembly.specs.Sections.{place}
use Rattle.c25_meaning_expansion.specs.Files.{Files}
use Rattle.c25_meaning_language.specs.declared.value.Value.{Value}
use Rattle.c25_meaning_objects.specs.declared.object.Block.{Block}
use Rattle.c25_laws.specs.SourceValues.{placed}
use Rattle.c25_source_laws.proofs.BlocksPlaced.{block_paged}
use Rattle.c25_meaning_linking.specs.Command.{CommandData}
use Rattle.c25_meaning_linking.specs.GoodMap.{IsGoodMap, placings_for, ranges_for}
use Rattle.c25_meaning_linking.specs.Linking.{HasWords}
use Rattle.c25_meaning_linking.specs.Place.{IsPart, LiesIn, Place, base_of, page_of, part_base, part_run, place_named, run_base, run_base_of, runs_elsewhere}
use Rattle.c25_meaning_linking.specs.Words.{HasWord, section_run}
use Rattle.c25_meaning_linking.proofs.Parts.{one_part}
use Rattle.c25_meaning_objects.specs.Module.{Contents, SectionBody, SectionData, Initialised, Uninitialised, body_size, body_words, is_module}
use Rattle.c25_module_laws.proofs.ModulesOfSources.{source_good}
use Rattle.c25_laws.proofs.WordsOfSources.{words_agree}
use Rattle.c25_laws.specs.ProgramStatements.{AreModulesOf, lines_in}
use Rattle.c25_laws.specs.SourceWords.{HasSourceWord}
use Rattle.c25_source_laws.specs.LinkedReservations.{HasReservation, IsReservedAt, first_address}
use Rattle.c25_source_laws.specs.Reservations.{Reservation, reservations_in, reserved_part, reserved_words}
use Rattle.c25_source_laws.proofs.Reserving.{part_same}
use Rattle.c25_source_laws.proofs.ReservedInModules as modules

-- ---- lists

parted : {X : Type 0} (xs : List X) (k : ℕ) (x : X) → slice_get xs k ≡ Some x → (after : List X) × (xs ≡ take k xs ++ x ∷ after)
parted [] k x e = absurd (cc)
parted (y ∷ ys) zero x e = let q : y ≡ x = cc in (ys, ap (λ z. z ∷ ys) q)
parted (y ∷ ys) (suc k) x e = let r = parted ys k x e in (r.0, ap (λ zs. y ∷ zs) r.1)

-- the words of a reservation end where those of a later one of its section begin, or before
words_earlier : (section : List ℕ) (xs : List Reservation) (i j : ℕ) (r : Reservation) → slice_get xs i ≡ Some r → i < j → reserved_words section (take i xs) + reserved_part section r ≤ reserved_words section (take j xs)
words_earlier section [] i j r e lt = absurd (cc)
words_earlier section (x ∷ xs) zero zero r e lt = absurd (omega (arith, lt))
words_earlier section (x ∷ xs) zero (suc j) r e lt =
    let q : x ≡ r = cc in
    let p : reserved_part section x ≡ reserved_part section r = ap (reserved_part section) q in
    omega (arith, p)
words_earlier section (x ∷ xs) (suc i) zero r e lt = absurd (omega (arith, lt))
words_earlier section (x ∷ xs) (suc i) (suc j) r e lt = let h = words_earlier section xs i j r e (omega (arith, lt)) in omega (arith, h)

-- ---- modules

module_at : (files : Files) (names : List (List ℕ)) (all : List Contents) (number : ℕ) (name : List ℕ) → AreModulesOf files names all → slice_get names number ≡ Some name
    → (a : Assembled) × (assembled files name ≡ Ok a) × (slice_get all number ≡ Some a.contents)
module_at files [] [] number name h e = absurd (cc)
module_at files [] (m ∷ all) number name h e = absurd h
module_at files (n ∷ names) [] number name h e = absurd h
module_at files (n ∷ names) (m ∷ all) zero name h e =
    let a = h.0 in
    let q : n ≡ name = cc in
    (a.0, subst (λ (k : List ℕ). assembled files k ≡ Ok a.0) q a.1, ap Some (sym a.2))
module_at files (n ∷ names) (m ∷ all) (suc number) name h e = module_at files names all number name h.1 e

each_module : (files : Files) (names : List (List ℕ)) (all : List Contents) → AreModulesOf files names all → (m : Contents) (n : ℕ) → slice_get all n ≡ Some m → is_module m ≡ true
each_module files [] [] h m n e = absurd (cc)
each_module files [] (x ∷ all) h m n e = absurd h
each_module files (name ∷ names) [] h m n e = absurd h
each_module files (name ∷ names) (x ∷ all) h m zero e =
    let a = h.0 in
    let q : x ≡ m = cc in
    subst (λ (c : Contents). is_module c ≡ true) (a.2 ∙ q) (source_good files name a.0 a.1).lists
each_module files (name ∷ names) (x ∷ all) h m (suc n) e = each_module files names all h.1 m n e

-- ---- one reservation

-- the part that has a reservation's words
pub record HasPart (all : List Contents) (source : ℕ) (one : Reservation) (before : ℕ) : Type 0 where
  pub index : ℕ
  pub owner : Contents
  pub section : SectionData
  pub part : IsPart all source index owner section
  pub name_is : section.name ≡ one.section
  pub size : ℕ
  pub body_is : section.body ≡ Uninitialised size
  pub inside : before + one.count ≤ size
  pub block_is : one.paged ≡ true → Contains owner.blocks (record { section = index; offset = before; size = one.count })
  pub block_small : one.paged ≡ true → (1 ≤ one.count) × (one.count ≤ 128)

-- a section without a run address runs where it is loaded
run_is_base : (name : List ℕ) (places : List Place) → runs_elsewhere name places ≡ false → run_base_of name places ≡ base_of name places
run_is_base name places e = on (place_named name places) e
  where
    by_run : (run : Option ℕ) (base : ℕ) → is_some run ≡ false → unwrap_or run base ≡ base
    by_run None base e = refl
    by_run (Some n) base e = absurd cc

    on : (o : Option Place) → option_map_or (λ p. is_some p.run) o false ≡ false → option_map_or run_base o 0 ≡ option_map_or (λ p. p.base) o 0
    on None e = refl
    on (Some p) e = by_run p.run p.base e

module _ (files : Files) (names : List (List ℕ)) (all : List Contents) (of : AreModulesOf files names all) where
  part_of : (source position : ℕ) (r : HasReservation files names source position) → HasPart all source r.one (reserved_words r.one.section (take position (reservations_in files r.name)))
  part_of source position r =
      let m = module_at files names all source r.name of r.name_is in
      let s = parted (reservations_in files r.name) position r.one r.one_is in
      let h = modules.places files r.name m.0 m.1 (take position (reservations_in files r.name)) s.0 r.one s.1 in
      record {
        index = h.number;
        owner = m.0.contents;
        section = h.section;
        part = record { owner_is = m.2; section_is = h.section_is };
        name_is = h.name_is;
        size = h.size;
        body_is = h.body_is;
        inside = h.inside;
        block_is = h.block_is;
        block_small = h.block_small;
      }

  pub value_of : (places : List Place) (source position : ℕ) (r : HasReservation files names source position) (owner : Contents) → slice_get all source ≡ Some owner → runs_elsewhere r.one.section places ≡ false
      → (v : Value) × Contains (lines_in files r.name).names (r.one.name, v) × (placed all places source owner v.base v.offset ≡ pos (first_address files names all places source position r))
  value_of places source position r owner owner_is here =
      let m = module_at files names all source r.name of r.name_is in
      let s = parted (reservations_in files r.name) position r.one r.one_is in
      let before = take position (reservations_in files r.name) in
      let h = modules.places files r.name m.0 m.1 before s.0 r.one s.1 in
      let offset = reserved_words r.one.section before in
      let owners : m.0.contents ≡ owner = let a = m.2 in cc in
      let there : slice_get owner.sections h.number ≡ Some h.section = subst (λ (o : Contents). slice_get o.sections h.number ≡ Some h.section) owners h.section_is in
      let run : section_run all places source owner h.number ≡ part_run all places source h.section.name = ap (λ (o : Option SectionData). option_map_or (λ x. part_run all places source x.name) o 0) there in
      let named : part_run all places source h.section.name ≡ part_run all places source r.one.section = ap (part_run all places source) h.name_is in
      let base = run_is_base r.one.section places here in
      (place h.number offset, h.value_is, ap pos (omega (arith, run, named, base)))

  module _ (places : List Place) where
    lies : (source position page address : ℕ) (r : HasReservation files names source position) → IsReservedAt files names all places source position r page address
        → (h : HasPart all source r.one (reserved_words r.one.section (take position (reservations_in files r.name)))) → LiesIn all places source h.section page address
    lies source position page address r is h =
        let base : part_base all places source h.section.name ≡ part_base all places source r.one.section = ap (part_base all places source) h.name_is in
        let size : body_size h.section.body ≡ h.size = ap body_size h.body_is in
        let from = is.covers.from in
        let upto = is.covers.upto in
        let inside = h.inside in
        record {
          page_is = is.page_is ∙ ap (λ n. page_of n places) (sym h.name_is);
          covers = record { from = omega (arith, base, from); upto = omega (arith, base, size, upto, inside) };
        }

    pub inside : (source position page address : ℕ) (r : HasReservation files names source position) → IsReservedAt files names all places source position r page address
        → (index : ℕ) × (owner : Contents) × (section : SectionData) × IsPart all source index owner section × (section.name ≡ r.one.section) × LiesIn all places source section page address
    inside source position page address r is = let h = part_of source position r in (h.index, h.owner, h.section, h.part, h.name_is, lies source position page address r is h)

    -- ---- two reservations

    not_earlier : (source position another page address : ℕ) (r : HasReservation files names source position) (s : HasReservation files names source another) → r.name ≡ s.name → r.one.section ≡ s.one.section
        → IsReservedAt files names all places source position r page address → IsReservedAt files names all places source another s page address → position < another → ⊥
    not_earlier source position another page address r s name section is also lt =
        let n = r.one.section in
        let a = words_earlier n (reservations_in files r.name) position another r.one r.one_is lt in
        let b = part_same n r.one refl in
        let c : reserved_words s.one.section (take another (reservations_in files s.name)) ≡ reserved_words n (take another (reservations_in files r.name)) =
        λ i. reserved_words (sym section i) (take another (reservations_in files (sym name i))) in
        let base : part_base all places source s.one.section ≡ part_base all places source n = ap (part_base all places source) (sym section) in
        let upto = is.covers.upto in
        let from = also.covers.from in
        omega (arith, a, b, c, base, upto, from)

    module _ (command : CommandData) (good : IsGoodMap all command places) where
      same_source : (source position another page address : ℕ) (r : HasReservation files names source position) (s : HasReservation files names source another) → r.one.section ≡ s.one.section
          → IsReservedAt files names all places source position r page address → IsReservedAt files names all places source another s page address → position ≡ another
      same_source source position another page address r s section is also =
          let name : r.name ≡ s.name = let a = r.name_is in let b = s.name_is in cc in
          elim (cases_lt position another) [
            | inl lt ↦ absurd (not_earlier source position another page address r s name section is also lt)
            | inr ge ↦ elim (cases_lt another position) [
              | inl lt ↦ absurd (not_earlier source another position page address s r (sym name) (sym section) also is lt)
              | inr le ↦ omega (arith, ge, le)
            ]
          ]

      pub apart : (source other position another page address : ℕ) (r : HasReservation files names source position) (s : HasReservation files names other another)
          → IsReservedAt files names all places source position r page address → IsReservedAt files names all places other another s page address → (source ≡ other) × (position ≡ another)
      apart source other position another page address r s is also =
          let h = part_of source position r in
          let k = part_of other another s in
          let one = one_part (ranges_for command) all (placings_for command) places (each_module files names all of) good source other h.index k.index page address h.owner k.owner h.section k.section h.part k.part (lies source position page address r is h) (lies other another page address s also k) in
          let numbers = one.numbers in
          let owners : h.owner ≡ k.owner = let a = h.part.owner_is in let b = k.part.owner_is in let e : slice_get all source ≡ slice_get all other = ap (slice_get all) numbers in cc in
          let sections : h.section ≡ k.section =
          let a = h.part.section_is in let b = k.part.section_is in
          let e : slice_get h.owner.sections h.index ≡ slice_get k.owner.sections k.index = λ i. slice_get (owners i).sections (one.indexes i) in cc in
          let same : r.one.section ≡ s.one.section = sym h.name_is ∙ ap (λ (x : SectionData). x.name) sections ∙ k.name_is in
          (numbers, by_number source other position another page address numbers r s same is also)
        where
          by_number : (source other position another page address : ℕ) → source ≡ other → (r : HasReservation files names source position) (s : HasReservation files names other another) → r.one.section ≡ s.one.section
              → IsReservedAt files names all places source position r page address → IsReservedAt files names all places other another s page address → position ≡ another
          by_number source other position another page address e =
              subst (λ (n : ℕ). (r : HasReservation files names source position) (s : HasReservation files names n another) → r.one.section ≡ s.one.section
              → IsReservedAt files names all places source position r page address → IsReservedAt files names all places n another s page address → position ≡ another) e (same_source source position another page address)

      -- ---- paged blocks

      pub blocks : (source position : ℕ) (r : HasReservation files names source position) → r.one.paged ≡ true → first_address files names all places source position r % 128 + r.one.count ≤ 128
      blocks source position r paged =
          let h = part_of source position r in
          let before = reserved_words r.one.section (take position (reservations_in files r.name)) in
          let size : body_size h.section.body ≡ h.size = ap body_size h.body_is in
          let inside = h.inside in
          let small = h.block_small paged in
          let some = small.0 in
          let b : Block = record { section = h.index; offset = before; size = r.one.count } in
          subst (λ (n : List ℕ). (part_base all places source n + before) % 128 + r.one.count ≤ 128) h.name_is
          (block_paged (ranges_for command) all (placings_for command) places good source h.owner h.section b h.part (h.block_is paged) (omega (arith, some)) (omega (arith, size, inside)))

      -- ---- loaded words

      no_words : (b : SectionBody) (size offset word : ℕ) → b ≡ Uninitialised size → slice_get (body_words b) offset ≡ Some word → ⊥
      no_words b size offset word e w =
          let none : slice_get (body_words (Uninitialised size)) offset ≡ Some word = subst (λ (x : SectionBody). slice_get (body_words x) offset ≡ Some word) e w in
          absurd (cc)

      no_word : (source position page address word : ℕ) (r : HasReservation files names source position) → IsReservedAt files names all places source position r page address → HasWord all places page address word → ⊥
      no_word source position page address word r is w =
          let h = part_of source position r in
          let few = few_words w.section.body w.offset w.before w.word_is in
          let at = w.address_is in
          let there : LiesIn all places w.number w.section page address = record { page_is = w.page_is; covers = record { from = omega (arith, at); upto = omega (arith, at, few) } } in
          let one = one_part (ranges_for command) all (placings_for command) places (each_module files names all of) good source w.number h.index w.index page address h.owner w.owner h.section w.section h.part w.part (lies source position page address r is h) there in
          let owners : h.owner ≡ w.owner = let a = h.part.owner_is in let b = w.part.owner_is in let e : slice_get all source ≡ slice_get all w.number = ap (slice_get all) one.numbers in cc in
          let sections : h.section ≡ w.section =
          let a = h.part.section_is in let b = w.part.section_is in
          let e : slice_get h.owner.sections h.index ≡ slice_get w.owner.sections w.index = λ i. slice_get (owners i).sections (one.indexes i) in cc in
          no_words w.section.body h.size w.offset w.before (ap (λ (x : SectionData). x.body) (sym sections) ∙ h.body_is) w.word_is
        where
          few_words : (b : SectionBody) (offset word : ℕ) → slice_get (body_words b) offset ≡ Some word → offset < body_size b
          few_words (Uninitialised size) offset word e = absurd (cc)
          few_words (Initialised words) offset word e = slice_get_within words offset word e

      pub items : (source position page address word : ℕ) (r : HasReservation files names source position) → IsReservedAt files names all places source position r page address
          → HasSourceWord files names all places page address word → ⊥
      items source position page address word r is w = no_word source position page address word r is ((words_agree files names all of places page address word).0 w)

      pub none_there : (words : finite.FinMap nat_cmp ℕ) (source position page address : ℕ) (r : HasReservation files names source position) → HasWords all places page words
          → IsReservedAt files names all places source position r page address → finite.get words address ≡ None
      none_there words source position page address r has is = on (finite.get words address) refl
        where
          on : (o : Option ℕ) → finite.get words address ≡ o → finite.get words address ≡ None
          on None e = e
          on (Some word) e = absurd (no_word source position page address word r is ((has address word).0 e))
