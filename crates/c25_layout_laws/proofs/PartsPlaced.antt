-- Where the sections of parts are placed under their command.
use Rattle.std.proofs.Common.{◌≡◌, ℕ, zero, suc, ◌+◌, ◌<◌, ◌≤◌, Bool, true, false, ◌||◌, if◌then◌else◌, List, [], ◌∷◌, ◌++◌, length, map, filter, reverse, Option, Some, Ok, refl, sym, ap, ◌∙◌, subst, arith, inl, inr}
use Rattle.std.specs.Prelude.{is_some, unwrap_or}
use Rattle.std.specs.List.{Contains, slice_get}
use Rattle.std.specs.Option.{option_map_or}
use Rattle.std.specs.Str.{bytes_eq}
use Rattle.std.proofs.lemmas.Bool.{false≢true}
use Rattle.std.proofs.lemmas.List.Elements.{Contains-append_cases}
use Rattle.std.proofs.lemmas.Slice.Eq.{bytes_eq-Decides}
use Rattle.c25_layout.specs.Layout.{Follow, rows_words}
use Rattle.c25_layout.specs.declared.layout.Part.{Part}
use Rattle.c25_linking_laws.proofs.Members.{behind_in, first_in, found_in, from_filter, from_map, from_reversed, in_front, in_map, in_reversed, nothing_in}
use Rattle.c25_meaning_linking.proofs.Parts.{part_in_place}
use Rattle.c25_meaning_linking.specs.Command.{At, PlacingData, RangeData, TargetData}
use Rattle.c25_meaning_linking.specs.GoodMap.{ArePlaced, IsBase, Request, Stand, Stands, comes_first, comes_later, default_page, is_among, listed_request, new_names, page_for, requests, unlisted_names, unlisted_request, usable}
use Rattle.c25_meaning_linking.specs.Place.{BlockData, Place, all_sections, base_of, page_of, part_base, part_run, run_base, run_base_of, runs_elsewhere}
use Rattle.c25_meaning_linking.specs.Words.{section_base, section_page, section_run, section_runs_elsewhere}
use Rattle.c25_meaning_objects.specs.Module.{Contents, SectionData}
use Rattle.c25_layout_laws.specs.Listed.{placing_of}
use Rattle.c25_layout_laws.specs.Listed.{section_of}
use Rattle.c25_layout_laws.proofs.PartsDone.{one_address}
use Rattle.c25_layout.specs.Layouts.{run_address}

-- ---- parts are known by their addresses

pub later_address : (from : ℕ) (parts : List Part) (p : Part) → Follow from parts → Contains parts p → (from ≤ p.address) × (p.address < 65536)
later_address from [] p h c = absurd (nothing_in p c)
later_address from (q ∷ parts) p (low, some, inside, follow) c = elim (in_front q p parts c) [
  | inl same ↦ subst (λ (x : Part). (from ≤ x.address) × (x.address < 65536)) same (low, omega (arith, some, inside))
  | inr later ↦ let rest = later_address (q.address + length (rows_words q.rows.items)) parts p follow later in let least = rest.0 in (omega (arith, least, low), rest.1)
]

one_part : (from : ℕ) (parts : List Part) (p q : Part) → Follow from parts → Contains parts p → Contains parts q → p.address ≡ q.address → p ≡ q
one_part from [] p q h c d e = absurd (nothing_in p c)
one_part from (x ∷ parts) p q (low, some, inside, follow) c d e =
    let next = x.address + length (rows_words x.rows.items) in
    elim (in_front x p parts c) [
      | inl p_first ↦ elim (in_front x q parts d) [
        | inl q_first ↦ sym p_first ∙ q_first
        | inr q_later ↦ let least = (later_address next parts q follow q_later).0 in let at = ap (λ (y : Part). y.address) p_first in absurd (omega (arith, least, at, e, some))
      ]
      | inr p_later ↦ elim (in_front x q parts d) [
        | inl q_first ↦ let least = (later_address next parts p follow p_later).0 in let at = ap (λ (y : Part). y.address) q_first in absurd (omega (arith, least, at, e, some))
        | inr q_later ↦ one_part next parts p q follow p_later q_later e
      ]
    ]

-- ---- what is asked for

module _ (parts : List Part) (follow : Follow 0 parts) (all : List Contents) where
  -- a request for the section of a part is for its address
  record IsFor (p : Part) (r : Request) : Type 0 where
    target : r.target ≡ At p.address
    page : r.page ≡ Some 0
    run : r.run ≡ p.run

  abbrev Asks : Request → Type 0
  Asks r = (p : Part) → Contains parts p → r.name ≡ section_of p.address → IsFor p r

  listed : (q : PlacingData) → Contains (map placing_of parts) q → Asks (listed_request all q)
  listed q c p d e =
      let x = from_map placing_of parts q c in
      let t = x.0 in
      let small_t = (later_address 0 parts t follow x.1).1 in
      let small_p = (later_address 0 parts p follow d).1 in
      let address = one_address t.address p.address small_t small_p (ap (λ (y : PlacingData). y.name) x.2 ∙ e) in
      let same : t ≡ p = one_part 0 parts t p follow x.1 d address in
      subst (λ (y : PlacingData). IsFor p (listed_request all y)) x.2 (subst (λ (y : Part). IsFor y (listed_request all (placing_of t))) same (record { target = refl; page = refl; run = refl }))

  pub new_is_new : (seen names : List (List ℕ)) (x : List ℕ) → Contains (new_names seen names) x → is_among x seen ≡ false
  new_is_new seen [] x c = absurd (nothing_in x c)
  new_is_new seen (name ∷ names) x c = go (is_among name seen) refl c (λ d. new_is_new seen names x d) (λ d. new_is_new (name ∷ seen) names x d)
    where
      go : (b : Bool) → is_among name seen ≡ b → Contains (if b then new_names seen names else name ∷ new_names (name ∷ seen) names) x
          → (Contains (new_names seen names) x → is_among x seen ≡ false) → (Contains (new_names (name ∷ seen) names) x → is_among x (name ∷ seen) ≡ false) → is_among x seen ≡ false
      go true is c skipped kept = skipped c
      go false is c skipped kept = elim (in_front name x (new_names (name ∷ seen) names) c) [
        | inl same ↦ subst (λ (y : List ℕ). is_among y seen ≡ false) same is
        | inr later ↦ or_second (bytes_eq x name) (is_among x seen) (kept later)
      ]
        where
          or_second : (b c : Bool) → (b || c) ≡ false → c ≡ false
          or_second true c e = absurd (cc)
          or_second false c e = e

  pub among_names : (names : List (List ℕ)) (x : List ℕ) → Contains names x → is_among x names ≡ true
  among_names [] x c = absurd (nothing_in x c)
  among_names (n ∷ names) x c = elim (in_front n x names c) [
    | inl same ↦ ap (λ (b : Bool). b || is_among x names) ((bytes_eq-Decides x n).1 (sym same))
    | inr later ↦ or_later (bytes_eq x n) (is_among x names) (among_names names x later)
  ]
    where
      or_later : (b c : Bool) → c ≡ true → (b || c) ≡ true
      or_later true c e = refl
      or_later false c e = e

  unlisted : (name : List ℕ) → Contains (unlisted_names all (map placing_of parts)) name → Asks (unlisted_request all name)
  unlisted name c p d e =
      let none = new_is_new (map (λ (q : PlacingData). q.name) (map placing_of parts)) (map (λ (s : SectionData). s.name) (all_sections all)) name c in
      let there = in_map (λ (q : PlacingData). q.name) (map placing_of parts) (placing_of p) (in_map placing_of parts p d) in
      absurd (false≢true (sym none ∙ among_names (map (λ (q : PlacingData). q.name) (map placing_of parts)) name (subst (Contains (map (λ (q : PlacingData). q.name) (map placing_of parts))) (sym e) there)))

  asked : (r : Request) → Contains (requests all (map placing_of parts)) r → Asks r
  asked r c =
      let placings = map placing_of parts in
      let first = filter (comes_first all) placings in
      let later = filter (comes_later all) placings in
      let others = unlisted_names all placings in
      elim (Contains-append_cases (map (listed_request all) first ++ map (listed_request all) later) (map (unlisted_request all) others) r c) [
        | inl listed_c ↦ elim (Contains-append_cases (map (listed_request all) first) (map (listed_request all) later) r listed_c) [
          | inl a ↦ let x = from_map (listed_request all) first r a in subst Asks x.2 (listed x.0 (from_filter (comes_first all) placings x.0 x.1).0)
          | inr a ↦ let x = from_map (listed_request all) later r a in subst Asks x.2 (listed x.0 (from_filter (comes_later all) placings x.0 x.1).0)
        ]
        | inr a ↦ let x = from_map (unlisted_request all) others r a in subst Asks x.2 (unlisted x.0 x.1)
      ]

  -- ---- where they stand

  pub record IsAt (p : Part) (q : Place) : Type 0 where
    pub base : q.base ≡ p.address
    pub page : q.page ≡ 0
    pub run : q.run ≡ p.run

  abbrev pub Fits : Place → Type 0
  Fits q = (p : Part) → Contains parts p → q.name ≡ section_of p.address → IsAt p q

  pub based : (target : TargetData) (address page size : ℕ) (blocks : List BlockData) (ranges : List RangeData) (places : List Place) (base : ℕ) → target ≡ At address → IsBase target page size blocks ranges places (Ok base) → base ≡ address
  based target address page size blocks [] places base e h = absurd (go target h)
    where
      go : (t : TargetData) → IsBase t page size blocks [] places (Ok base) → ⊥
      go t h = cc
  based target address page size blocks (first ∷ ranges) places base e h = (subst (λ (t : TargetData). IsBase t page size blocks (first ∷ ranges) places (Ok base)) e h).0

  stands_fit : (ranges : List RangeData) (before : List Place) (r : Request) (q : Place) → Asks r → Stands ranges before r q → Fits q
  stands_fit ranges before r q asks s p c e =
      let f = asks p c (sym s.name_is ∙ e) in
      record {
        base = based r.target p.address (page_for ranges r) r.size r.blocks (usable ranges r) before q.base f.target s.base_is;
        page = s.page_is ∙ ap (λ (o : Option ℕ). unwrap_or o (default_page ranges r.target r.initialised)) f.page;
        run = s.run_is ∙ f.run;
      }

  stand_fit : (ranges : List RangeData) (rs : List Request) (ps : List Place) → Stand ranges rs ps → ((r : Request) → Contains rs r → Asks r) → (q : Place) → Contains ps q → Fits q
  stand_fit ranges [] [] s asks q c = absurd (nothing_in q c)
  stand_fit ranges [] (x ∷ ps) s asks q c = absurd s
  stand_fit ranges (r ∷ rs) [] s asks q c = absurd s
  stand_fit ranges (r ∷ rs) (x ∷ ps) s asks q c =
      elim (in_front x q ps c) [
        | inl same ↦ subst Fits same (stands_fit ranges (reverse ps) r x (asks r (first_in r rs)) s.0)
        | inr later ↦ stand_fit ranges rs ps s.1 (λ y d. asks y (behind_in r y rs d)) q later
      ]

  pub placed_fit : (ranges : List RangeData) (places : List Place) → ArePlaced ranges (requests all (map placing_of parts)) places → (q : Place) → Contains places q → Fits q
  placed_fit ranges places s q c =
      stand_fit ranges (reverse (requests all (map placing_of parts))) (reverse places) s (λ r d. asked r (from_reversed (requests all (map placing_of parts)) r d)) q (in_reversed places q c)

-- ---- the sections of one module

named_at : {X : Type 0} (name : X → List ℕ) (xs : List X) (k : ℕ) (n : List ℕ) → slice_get (map name xs) k ≡ Some n → (x : X) × (slice_get xs k ≡ Some x) × (name x ≡ n)
named_at name [] k n e = absurd (cc)
named_at name (x ∷ xs) zero n e = (x, refl, cc)
named_at name (x ∷ xs) (suc k) n e = named_at name xs k n e

-- a section of the module of parts stands where its part says
pub record StandsAt (modules : List Contents) (places : List Place) (m : Contents) (k : ℕ) (p : Part) : Type 0 where
  pub base : section_base modules places 0 m k ≡ p.address
  pub run : section_run modules places 0 m k ≡ run_address p
  pub page : section_page places m k ≡ 0
  pub elsewhere : section_runs_elsewhere places m k ≡ is_some p.run

module _ (parts : List Part) (follow : Follow 0 parts) (m : Contents) (ranges : List RangeData) (places : List Place) (placed : ArePlaced ranges (requests (m ∷ []) (map placing_of parts)) places) where
  abbrev alone : List Contents
  alone = m ∷ []

  pub stands_at : (k : ℕ) (p : Part) → Contains parts p → slice_get (map (λ (s : SectionData). s.name) m.sections) k ≡ Some (section_of p.address) → StandsAt alone places m k p
  stands_at k p c e =
      let s = named_at (λ (s : SectionData). s.name) m.sections k (section_of p.address) e in
      let section = s.0 in
      let i = part_in_place ranges alone (map placing_of parts) places 0 k m section placed (record { owner_is = refl; section_is = s.1 }) in
      let found = found_in (λ (q : Place). bytes_eq section.name q.name) places i.place i.found in
      let named : i.place.name ≡ section.name = sym ((bytes_eq-Decides section.name i.place.name).0 found.1) in
      let f = placed_fit parts follow alone ranges places placed i.place found.0 p c (named ∙ s.2) in
      let base_is : base_of section.name places ≡ i.place.base = ap (λ (o : Option Place). option_map_or (λ (q : Place). q.base) o 0) i.found in
      let run_is : run_base_of section.name places ≡ run_base i.place = ap (λ (o : Option Place). option_map_or run_base o 0) i.found in
      let page_is : page_of section.name places ≡ i.place.page = ap (λ (o : Option Place). option_map_or (λ (q : Place). q.page) o 0) i.found in
      let base_same = base_is ∙ f.base in
      let run_same : run_base_of section.name places ≡ run_address p = run_is ∙ (λ j. unwrap_or (f.run j) (f.base j)) in
      let base_none : base_of section.name places + 0 ≡ p.address = omega (arith, base_same) in
      let run_none : run_base_of section.name places + 0 ≡ run_address p = omega (arith, run_same) in
      record {
        base = ap (λ (o : Option SectionData). option_map_or (λ (x : SectionData). part_base alone places 0 x.name) o 0) s.1 ∙ base_none;
        run = ap (λ (o : Option SectionData). option_map_or (λ (x : SectionData). part_run alone places 0 x.name) o 0) s.1 ∙ run_none;
        page = ap (λ (o : Option SectionData). option_map_or (λ (x : SectionData). page_of x.name places) o 0) s.1 ∙ page_is ∙ f.page;
        elsewhere = ap (λ (o : Option SectionData). option_map_or (λ (x : SectionData). runs_elsewhere x.name places) o false) s.1
            ∙ ap (λ (o : Option Place). option_map_or (λ (q : Place). is_some q.run) o false) i.found ∙ ap (λ (o : Option ℕ). is_some o) f.run;
      }
