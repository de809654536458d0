-- The blocks of the modules of a program lie in pages of 128 words.
use Rattle.std.proofs.Common.{◌≡◌, ℕ, suc, zero, ◌+◌, ◌%◌, ◌<◌, ◌≤◌, true, false, List, [], ◌∷◌, ◌++◌, map, filter, reverse, take, Option, Some, Ok, inl, inr, refl, sym, ap, ◌∙◌, subst, arith}
use Rattle.std.specs.List.{Contains, list_any, slice_get}
use Rattle.std.specs.Option.{option_map_or}
use Rattle.std.specs.Str.{bytes_eq}
use Rattle.std.proofs.lemmas.Bool.{and_parts, leb-true}
use Rattle.std.proofs.lemmas.List.Elements.{Contains-append_cases, Contains-append_left, Contains-append_right}
use Rattle.c25_linking_laws.proofs.Members.{behind_in, first_in, found_in, from_map, from_reversed, in_filter, in_front, in_map, in_reversed, nothing_in}
use Rattle.c25_meaning_linking.specs.Command.{Anywhere, At, InRange, PlacingData, RangeData, TargetData}
use Rattle.c25_meaning_linking.specs.GoodMap.{ArePlaced, IsBase, Request, Stand, Stands, blocks_fit, comes_first, comes_later, is_inside, is_paged, listed_request, page_for, requests, unlisted_names, unlisted_request, usable}
use Rattle.c25_meaning_linking.specs.Place.{BlockData, IsPart, Place, block_behind, blocks_of, by_modules, is_block_named, is_section_named, part_base, part_blocks, size_of_parts}
use Rattle.c25_meaning_linking.proofs.Parts.{part_in_place}
use Rattle.c25_meaning_linking.proofs.PlaceNames.{is_same, same_name}
use Rattle.c25_meaning_objects.specs.Module.{Contents, SectionData, body_size}
use Rattle.c25_meaning_objects.specs.declared.object.Block.{Block}

-- ---- what is asked for

-- a request has the blocks of its section
abbrev AsksFor : List Contents → Request → Type 0
AsksFor all r = r.blocks ≡ blocks_of r.name all

asked : (all : List Contents) (placings : List PlacingData) (r : Request) → Contains (requests all placings) r → AsksFor all r
asked all placings r c =
    let first = filter (comes_first all) placings in
    let later = filter (comes_later all) placings in
    let others = unlisted_names all placings in
    elim (Contains-append_cases (map (listed_request all) first ++ map (listed_request all) later) (map (unlisted_request all) others) r c) [
      | inl listed ↦ elim (Contains-append_cases (map (listed_request all) first) (map (listed_request all) later) r listed) [
        | inl a ↦ let x = from_map (listed_request all) first r a in subst (AsksFor all) x.2 refl
        | inr a ↦ let x = from_map (listed_request all) later r a in subst (AsksFor all) x.2 refl
      ]
      | inr a ↦ let x = from_map (unlisted_request all) others r a in subst (AsksFor all) x.2 refl
    ]

-- ---- where sections are placed

-- the blocks of a place that has words lie in pages
abbrev Fits : List Contents → Place → Type 0
Fits all p = 0 < p.size → blocks_fit p.base (blocks_of p.name all) ≡ true

based : (target : TargetData) (page size : ℕ) (blocks : List BlockData) (ranges : List RangeData) (places : List Place) (base : ℕ) → 0 < size → IsBase target page size blocks ranges places (Ok base) → blocks_fit base blocks ≡ true
based Anywhere page size blocks [] places base some h = absurd cc
based (InRange name) page size blocks [] places base some h = absurd cc
based (At address) page size blocks [] places base some h = absurd cc
based Anywhere page size blocks (first ∷ ranges) places base some h = (h.1 some).least.fits.paged
based (InRange name) page size blocks (first ∷ ranges) places base some h = (h.1 some).least.fits.paged
based (At address) page size blocks (first ∷ ranges) places base some h =
    subst (λ (n : ℕ). blocks_fit n blocks ≡ true) (sym h.0) (and_parts (blocks_fit address blocks) (list_any (is_inside address size) (first ∷ ranges)) h.1).0

stands_fit : (all : List Contents) (ranges : List RangeData) (before : List Place) (r : Request) (p : Place) → AsksFor all r → Stands ranges before r p → Fits all p
stands_fit all ranges before r p asks s some =
    let sized = s.size_is in
    let fit = based r.target (page_for ranges r) r.size r.blocks (usable ranges r) before p.base (omega (arith, some, sized)) s.base_is in
    ap (λ (n : List ℕ). blocks_fit p.base (blocks_of n all)) s.name_is ∙ ap (blocks_fit p.base) (sym asks) ∙ fit

stand_fit : (all : List Contents) (ranges : List RangeData) (rs : List Request) (ps : List Place) → Stand ranges rs ps → ((r : Request) → Contains rs r → AsksFor all r) → (p : Place) → Contains ps p → Fits all p
stand_fit all ranges [] [] s asks p c = absurd (nothing_in p c)
stand_fit all ranges [] (q ∷ ps) s asks p c = absurd s
stand_fit all ranges (r ∷ rs) [] s asks p c = absurd s
stand_fit all ranges (r ∷ rs) (q ∷ ps) s asks p c =
    elim (in_front q p ps c) [
      | inl same ↦ subst (Fits all) same (stands_fit all ranges (reverse ps) r q (asks r (first_in r rs)) s.0)
      | inr later ↦ stand_fit all ranges rs ps s.1 (λ x d. asks x (behind_in r x rs d)) p later
    ]

placed_fit : (all : List Contents) (ranges : List RangeData) (placings : List PlacingData) (places : List Place) → ArePlaced ranges (requests all placings) places → (p : Place) → Contains places p → Fits all p
placed_fit all ranges placings places s p c =
    stand_fit all ranges (reverse (requests all placings)) (reverse places) s (λ r d. asked all placings r (from_reversed (requests all placings) r d)) p (in_reversed places p c)

-- ---- one block

in_modules : {A : Type 0} (gives : ℕ → Contents → List A) (number : ℕ) (all : List Contents) (k : ℕ) (m : Contents) (x : A) → slice_get all k ≡ Some m → Contains (gives (number + k) m) x → Contains (by_modules gives number all) x
in_modules gives number [] k m x e c = absurd (cc)
in_modules gives number (y ∷ ys) zero m x e c =
    let q : y ≡ m = cc in
    let z : number + 0 ≡ number = omega arith in
    Contains-append_left (gives number y) (by_modules gives (number + 1) ys) x (subst (λ (o : Contents). Contains (gives number o) x) (sym q) (subst (λ (n : ℕ). Contains (gives n m) x) z c))
in_modules gives number (y ∷ ys) (suc k) m x e c =
    let z : number + suc k ≡ (number + 1) + k = omega arith in
    Contains-append_right (gives number y) (by_modules gives (number + 1) ys) x (in_modules gives (number + 1) ys k m x e (subst (λ (n : ℕ). Contains (gives n m) x) z c))

each_paged : (base : ℕ) (bs : List BlockData) (b : BlockData) → blocks_fit base bs ≡ true → Contains bs b → is_paged base b ≡ true
each_paged base [] b e c = absurd (nothing_in b c)
each_paged base (x ∷ xs) b e c =
    let h = and_parts (is_paged base x) (blocks_fit base xs) e in
    elim (in_front x b xs c) [
      | inl same ↦ subst (λ (y : BlockData). is_paged base y ≡ true) same h.0
      | inr later ↦ each_paged base xs b h.1 later
    ]

-- a block of a module's part lies in one page
pub block_paged : (ranges : List RangeData) (all : List Contents) (placings : List PlacingData) (places : List Place) → ArePlaced ranges (requests all placings) places
    → (number : ℕ) (owner : Contents) (section : SectionData) (b : Block) → IsPart all number b.section owner section → Contains owner.blocks b → 0 < b.size → b.offset + b.size ≤ body_size section.body
    → (part_base all places number section.name + b.offset) % 128 + b.size ≤ 128
block_paged ranges all placings places s number owner section b part c some room =
    let name = section.name in
    let i = part_in_place ranges all placings places number b.section owner section s part in
    let words = size_of_parts name (take number all) in
    let test : is_block_named name owner b ≡ true = ap (λ (o : Option SectionData). option_map_or (is_section_named name) o false) part.section_is ∙ is_same name in
    let own : Contains (part_blocks all name number owner) (block_behind words b) = in_map (block_behind words) (filter (is_block_named name owner) owner.blocks) b (in_filter (is_block_named name owner) owner.blocks b c test) in
    let z : number ≡ 0 + number = omega arith in
    let there : Contains (blocks_of name all) (block_behind words b) = in_modules (part_blocks all name) 0 all number owner (block_behind words b) part.owner_is (subst (λ (n : ℕ). Contains (part_blocks all name n owner) (block_behind words b)) z own) in
    let found = found_in (λ (p : Place). bytes_eq name p.name) places i.place i.found in
    let named = same_name name i.place.name found.1 in
    let base = i.base_is in
    let within = i.within in
    let sized : 0 < i.place.size = omega (arith, base, within, some, room) in
    let fit = placed_fit all ranges placings places s i.place found.0 sized in
    let paged = each_paged i.place.base (blocks_of name all) (block_behind words b) (ap (λ (n : List ℕ). blocks_fit i.place.base (blocks_of n all)) named ∙ fit) there in
    let low = leb-true ((i.place.base + (words + b.offset)) % 128 + b.size) 128 paged in
    let at : part_base all places number name + b.offset ≡ i.place.base + (words + b.offset) = omega (arith, base) in
    let same : (part_base all places number name + b.offset) % 128 ≡ (i.place.base + (words + b.offset)) % 128 = ap (λ n. n % 128) at in
    omega (arith, low, same)
