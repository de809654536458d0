-- The sections of the module of a layout have their places.
use Rattle.std.proofs.Common.{◌≡◌, ◌⊎◌, ℕ, ◌+◌, ◌<◌, ◌≤◌, ◌==◌, Bool, true, false, cond, ◌&&◌, ◌||◌, if◌then◌else◌, List, [], ◌∷◌, ◌++◌, filter, length, map, max, codes, reverse, Option, Some, None, Err, refl, sym, ap, ◌∙◌, subst, arith, inl, inr, append-nil, append_assoc, Ok}
use Rattle.std.specs.Prelude.{IfSome, nat_le, nat_lt}
use Rattle.std.specs.List.{Contains, fold, list_any}
use Rattle.std.specs.Option.{option_map_or}
use Rattle.std.specs.Str.{bytes_eq}
use Rattle.std.proofs.lemmas.Bool.{false≢true}
use Rattle.std.proofs.lemmas.Bool.Decides.{nat_tests}
use Rattle.std.proofs.lemmas.List.{map-append, reverse-append, reverse-reverse}
use Rattle.std.proofs.lemmas.List.Elements.{Contains-append_left, Contains-append_right}
use Rattle.std.proofs.lemmas.Slice.Eq.{bytes_eq-Decides}
use Rattle.c25_layout.specs.Layout.{Follow, rows_words}
use Rattle.c25_layout.specs.declared.layout.Part.{Part}
use Rattle.c25_linking_laws.proofs.Members.{behind_in, each_in, first_in, from_map, from_reversed, in_front, in_map, in_reversed, nothing_in}
use Rattle.c25_meaning_common.specs.declared.placed.Placed.{Placed}
use Rattle.c25_meaning_linking.specs.Command.{Anywhere, At, PlacingData, RangeData}
use Rattle.c25_meaning_linking.specs.GoodMap.{ArePlaced, IsBase, IsBaseAt, IsFree, IsUnfit, IsUnplaced, Request, RunsAt, Stand, Stands, comes_first, comes_later, default_ranges, has_word, is_among, is_usable, listed_request, may_stand, new_names, page_for, requests, runs_at, unlisted_names, unlisted_request, usable}
use Rattle.c25_meaning_linking.specs.Place.{BlockData, Place, all_sections, block_behind, blocks_of, is_block_named, is_initialised, is_section_named, is_there, size_for, size_of_parts}
use Rattle.c25_meaning_linking.specs.declared.link_fault.LinkFault.{LinkFault}
use Rattle.c25_meaning_linking.specs.declared.link_fault.LinkFault.TheVariants as fault
use Rattle.c25_meaning_objects.specs.Module.{Contents, SectionData, has_words}
use Rattle.c25_meaning_objects.specs.declared.object.Block.{Block}
use Rattle.c25_layout_laws.proofs.ModuleOfParts.{AreSized, IsModuleOf, sized_of}
use Rattle.c25_layout_laws.proofs.PartsDone.{differ, no_text, one_address, sections_of}
use Rattle.c25_layout_laws.proofs.PartsPlaced.{based, later_address}
use Rattle.c25_layout_laws.specs.Listed.{placing_of, section_of}
use Rattle.c25_layout.specs.Buildable.{RunApart, RunsFit, RunsInB0}

abbrev size_of : Part → ℕ
size_of p = length (rows_words p.rows.items)

-- ---- how many words the section of a name has

abbrev named_size : List ℕ → List (List ℕ × ℕ) → ℕ
named_size name [] = 0
named_size name (n ∷ ns) = cond (bytes_eq name n.0) n.1 0 + named_size name ns

sized_sum : (name : List ℕ) (ss : List SectionData) (ns : List (List ℕ × ℕ)) (a : ℕ) → AreSized ss ns → fold (λ a s. a + size_for name s) a (ss ++ []) ≡ a + named_size name ns
sized_sum name [] [] a h = omega arith
sized_sum name [] (n ∷ ns) a h = absurd h
sized_sum name (s ∷ ss) [] a h = absurd h
sized_sum name (s ∷ ss) (n ∷ ns) a (named, loaded, size, h) =
    let own : size_for name s ≡ cond (bytes_eq name n.0) n.1 0 = (λ i. cond (bytes_eq name (named i)) (size i) 0) in
    let rest = sized_sum name ss ns (a + size_for name s) h in
    omega (arith, own, rest)

sized_there : (name : List ℕ) (ss : List SectionData) (ns : List (List ℕ × ℕ)) → AreSized ss ns → Contains (map (λ (n : List ℕ × ℕ). n.0) ns) name → list_any (is_section_named name) (ss ++ []) ≡ true
sized_there name [] [] h c = absurd (nothing_in name c)
sized_there name [] (n ∷ ns) h c = absurd h
sized_there name (s ∷ ss) [] h c = absurd h
sized_there name (s ∷ ss) (n ∷ ns) (named, loaded, size, h) c = elim (in_front n.0 name (map (λ (n : List ℕ × ℕ). n.0) ns) c) [
  | inl same ↦ ap (λ (b : Bool). b || list_any (is_section_named name) (ss ++ [])) ((bytes_eq-Decides name s.name).1 (sym (named ∙ same)))
  | inr later ↦ or_later (bytes_eq name s.name) (list_any (is_section_named name) (ss ++ [])) (sized_there name ss ns h later)
]
  where
    or_later : (b c : Bool) → c ≡ true → (b || c) ≡ true
    or_later true c e = refl
    or_later false c e = e

sized_loaded : (name : List ℕ) (ss : List SectionData) (ns : List (List ℕ × ℕ)) → AreSized ss ns → list_any (λ (s : SectionData). is_section_named name s && has_words s.body) (ss ++ []) ≡ list_any (is_section_named name) (ss ++ [])
sized_loaded name [] [] h = refl
sized_loaded name [] (n ∷ ns) h = absurd h
sized_loaded name (s ∷ ss) [] h = absurd h
sized_loaded name (s ∷ ss) (n ∷ ns) (named, loaded, size, h) =
    (λ i. (is_section_named name s && loaded i) || sized_loaded name ss ns h i) ∙ ap (λ (b : Bool). b || list_any (is_section_named name) (ss ++ [])) (both (is_section_named name s))
  where
    both : (b : Bool) → (b && true) ≡ b
    both true = refl
    both false = refl

pub sized_names : (ss : List SectionData) (ns : List (List ℕ × ℕ)) → AreSized ss ns → map (λ (s : SectionData). s.name) ss ≡ map (λ (n : List ℕ × ℕ). n.0) ns
sized_names [] [] h = refl
sized_names [] (n ∷ ns) h = absurd h
sized_names (s ∷ ss) [] h = absurd h
sized_names (s ∷ ss) (n ∷ ns) (named, loaded, size, h) = λ i. named i ∷ sized_names ss ns h i

text_size : (parts : List Part) → named_size (codes ".text") (map sized_of parts) ≡ 0
text_size [] = refl
text_size (p ∷ parts) =
    let other = ap (λ (b : Bool). cond b (size_of p) 0) (differ (codes ".text") (section_of p.address) (λ e. no_text p.address (sym e))) in
    let rest = text_size parts in
    omega (arith, other, rest)

later_size : (a from : ℕ) (parts : List Part) → Follow from parts → a < from → a < 65536 → named_size (section_of a) (map sized_of parts) ≡ 0
later_size a from [] follow less small = refl
later_size a from (p ∷ parts) (low, some, inside, follow) less small =
    let other = ap (λ (b : Bool). cond b (size_of p) 0) (differ (section_of a) (section_of p.address) (λ e. let same = one_address a p.address small (omega (arith, some, inside)) e in omega (arith, same, less, low))) in
    let rest = later_size a (p.address + size_of p) parts follow (omega (arith, less, low)) small in
    omega (arith, other, rest)

pub part_size : (from : ℕ) (parts : List Part) (q : Part) → Follow from parts → Contains parts q → named_size (section_of q.address) (map sized_of parts) ≡ size_of q
part_size from [] q follow c = absurd (nothing_in q c)
part_size from (p ∷ parts) q (low, some, inside, follow) c =
    let next = p.address + size_of p in
    elim (in_front p q parts c) [
      | inl same ↦
          let own = ap (λ (b : Bool). cond b (size_of p) 0) ((bytes_eq-Decides (section_of q.address) (section_of p.address)).1 (ap (λ (x : Part). section_of x.address) (sym same))) in
          let at = ap (λ (x : Part). x.address) same in
          let size = ap size_of same in
          let rest = later_size q.address next parts follow (omega (arith, at, some)) (omega (arith, at, some, inside)) in
          omega (arith, own, size, rest)
      | inr later ↦
          let bounds = later_address next parts q follow later in
          let least = bounds.0 in
          let other = ap (λ (b : Bool). cond b (size_of p) 0) (differ (section_of q.address) (section_of p.address) (λ e. let same = one_address q.address p.address bounds.1 (omega (arith, some, inside)) e in omega (arith, same, least, some))) in
          let rest = part_size next parts q follow later in
          omega (arith, other, rest)
    ]

-- ---- what is asked for

pub section_names : (parts : List Part) → map (λ (n : List ℕ × ℕ). n.0) (map sized_of parts) ≡ sections_of parts
section_names [] = refl
section_names (p ∷ parts) = ap (λ (ns : List (List ℕ)). section_of p.address ∷ ns) (section_names parts)

placing_names : (parts : List Part) → map (λ (p : PlacingData). p.name) (map placing_of parts) ≡ sections_of parts
placing_names [] = refl
placing_names (p ∷ parts) = ap (λ (ns : List (List ℕ)). section_of p.address ∷ ns) (placing_names parts)

no_text_among : (parts : List Part) → is_among (codes ".text") (sections_of parts) ≡ false
no_text_among [] = refl
no_text_among (p ∷ parts) = (λ i. differ (codes ".text") (section_of p.address) (λ e. no_text p.address (sym e)) i || no_text_among parts i)

is_named : (names : List (List ℕ)) (x : List ℕ) → Contains names x → is_among x names ≡ true
is_named [] x c = absurd (nothing_in x c)
is_named (n ∷ names) x c = elim (in_front n x names c) [
  | inl same ↦ ap (λ (b : Bool). b || is_among x names) ((bytes_eq-Decides x n).1 (sym same))
  | inr later ↦ or_later (bytes_eq x n) (is_among x names) (is_named names x later)
]
  where
    or_later : (b c : Bool) → c ≡ true → (b || c) ≡ true
    or_later true c e = refl
    or_later false c e = e

none_new : (names seen : List (List ℕ)) → ((x : List ℕ) → Contains names x → is_among x seen ≡ true) → new_names seen names ≡ []
none_new [] seen all = refl
none_new (n ∷ names) seen all =
    ap (λ (b : Bool). if b then new_names seen names else n ∷ new_names (n ∷ seen) names) (all n (first_in n names))
    ∙ none_new names seen (λ x c. all x (behind_in n x names c))

module _ (parts : List Part) (follow : Follow 0 parts) (m : Contents) (h : IsModuleOf parts m) where
  abbrev alone : List Contents
  alone = m ∷ []

  abbrev ask : Part → Request
  ask p = listed_request alone (placing_of p)

  abbrev text : Request
  text = unlisted_request alone (codes ".text")

  there : (p : Part) → Contains parts p → is_there (section_of p.address) alone ≡ true
  there p c =
      sized_there (section_of p.address) m.sections ((codes ".text", 0) ∷ map sized_of parts) h.sections
      (behind_in (codes ".text") (section_of p.address) (map (λ (n : List ℕ × ℕ). n.0) (map sized_of parts)) (in_map (λ (n : List ℕ × ℕ). n.0) (map sized_of parts) (sized_of p) (in_map sized_of parts p c)))

  all_first : (ps : List Part) → ((p : Part) → Contains ps p → is_there (section_of p.address) alone ≡ true) → filter (comes_first alone) (map placing_of ps) ≡ map placing_of ps
  all_first [] all = refl
  all_first (p ∷ ps) all =
      ap (λ (b : Bool). if b then placing_of p ∷ filter (comes_first alone) (map placing_of ps) else filter (comes_first alone) (map placing_of ps)) (all p (first_in p ps))
      ∙ ap (λ (xs : List PlacingData). placing_of p ∷ xs) (all_first ps (λ q c. all q (behind_in p q ps c)))

  none_later : (ps : List Part) → filter (comes_later alone) (map placing_of ps) ≡ []
  none_later [] = refl
  none_later (p ∷ ps) = none_later ps

  only_text : unlisted_names alone (map placing_of parts) ≡ codes ".text" ∷ []
  only_text =
      let names : map (λ (s : SectionData). s.name) (all_sections alone) ≡ codes ".text" ∷ sections_of parts =
      ap (map (λ (s : SectionData). s.name)) (append-nil m.sections) ∙ sized_names m.sections ((codes ".text", 0) ∷ map sized_of parts) h.sections ∙ ap (λ (ns : List (List ℕ)). codes ".text" ∷ ns) (section_names parts) in
      (λ i. new_names (placing_names parts i) (names i))
      ∙ ap (λ (b : Bool). if b then new_names (sections_of parts) (sections_of parts) else codes ".text" ∷ new_names (codes ".text" ∷ sections_of parts) (sections_of parts)) (no_text_among parts)
      ∙ ap (λ (ns : List (List ℕ)). codes ".text" ∷ ns) (none_new (sections_of parts) (codes ".text" ∷ sections_of parts) (λ x c. is_named (codes ".text" ∷ sections_of parts) x (behind_in (codes ".text") x (sections_of parts) c)))

  asks : (ps : List Part) → map (listed_request alone) (map placing_of ps) ≡ map ask ps
  asks [] = refl
  asks (p ∷ ps) = ap (λ (rs : List Request). ask p ∷ rs) (asks ps)

  requests_are : requests alone (map placing_of parts) ≡ map ask parts ++ text ∷ []
  requests_are =
      (λ i. map (listed_request alone) (all_first parts there i) ++ map (listed_request alone) (none_later parts i) ++ map (unlisted_request alone) (only_text i))
      ∙ ap (λ (rs : List Request). rs ++ text ∷ []) (append-nil (map (listed_request alone) (map placing_of parts)) ∙ asks parts)

  -- ---- sizes and blocks

  asked_size : (p : Part) → Contains parts p → size_of_parts (section_of p.address) alone ≡ size_of p
  asked_size p c =
      let sum = sized_sum (section_of p.address) m.sections ((codes ".text", 0) ∷ map sized_of parts) 0 h.sections in
      let none = ap {B = ℕ} (λ (b : Bool). cond b 0 0) (differ (section_of p.address) (codes ".text") (no_text p.address)) in
      let own = part_size 0 parts p follow c in
      omega (arith, sum, none, own)

  text_none : size_of_parts (codes ".text") alone ≡ 0
  text_none =
      let sum = sized_sum (codes ".text") m.sections ((codes ".text", 0) ∷ map sized_of parts) 0 h.sections in
      let none = text_size parts in
      omega (arith, sum, none)

  no_blocks : (name : List ℕ) → blocks_of name alone ≡ []
  no_blocks name = ap (λ (bs : List Block). map (block_behind 0) (filter (is_block_named name m) bs) ++ []) h.blocks

  asked_loaded : (p : Part) → Contains parts p → is_initialised (section_of p.address) alone ≡ true
  asked_loaded p c = sized_loaded (section_of p.address) m.sections ((codes ".text", 0) ∷ map sized_of parts) h.sections ∙ there p c

  -- ---- where earlier parts stand

  record IsOf (p : Part) (x : Place) : Type 0 where
    base : x.base ≡ p.address
    size : x.size ≡ size_of p
    run : x.run ≡ p.run

  from_stand : (ranges : List RangeData) (rs : List Request) (places : List Place) → Stand ranges rs places → (x : Place) → Contains places x → (r : Request) × (earlier : List Place) × Contains rs r × Stands ranges earlier r x
  from_stand ranges [] [] s x c = absurd (nothing_in x c)
  from_stand ranges [] (y ∷ places) s x c = absurd s
  from_stand ranges (r ∷ rs) [] s x c = absurd s
  from_stand ranges (r ∷ rs) (y ∷ places) s x c = elim (in_front y x places c) [
    | inl same ↦ (r, reverse places, first_in r rs, subst (Stands ranges (reverse places) r) same s.0)
    | inr later ↦ let f = from_stand ranges rs places s.1 x later in (f.0, f.1, behind_in r f.0 rs f.2, f.3)
  ]

  placed_of : (ranges : List RangeData) (ps : List Part) (places : List Place) → ((p : Part) → Contains ps p → Contains parts p) → ArePlaced ranges (map ask ps) places → (x : Place) → Contains places x → (p : Part) × Contains ps p × IsOf p x
  placed_of ranges ps places within placed x c =
      let f = from_stand ranges (reverse (map ask ps)) (reverse places) placed x (in_reversed places x c) in
      let q = from_map ask ps f.0 (from_reversed (map ask ps) f.0 f.2) in
      let p = q.0 in
      let s : Stands ranges f.1 (ask p) x = subst (λ (r : Request). Stands ranges f.1 r x) (sym q.2) f.3 in (
        p,
        q.1,
        record {
          base = based parts follow alone (At p.address) p.address (page_for ranges (ask p)) (ask p).size (ask p).blocks (usable ranges (ask p)) f.1 x.base refl s.base_is;
          size = s.size_is ∙ asked_size p (within p q.1);
          run = s.run_is;
        },
      )

  ends_before : (from : ℕ) (ps : List Part) (q : Part) (qs : List Part) → Follow from (ps ++ q ∷ qs) → (p : Part) → Contains ps p → p.address + size_of p ≤ q.address
  ends_before from [] q qs f p c = absurd (nothing_in p c)
  ends_before from (x ∷ ps) q qs (low, some, inside, f) p c = elim (in_front x p ps c) [
    | inl same ↦
        let at = ap (λ (y : Part). y.address + size_of y) same in
        let least = (later_address (x.address + size_of x) (ps ++ q ∷ qs) q f (Contains-append_right ps (q ∷ qs) q (first_in q qs))).0 in
        omega (arith, at, least)
    | inr later ↦ ends_before (x.address + size_of x) ps q qs f p later
  ]

  runs_before : (ps : List Part) (q : Part) (qs : List Part) → RunsFit (ps ++ q ∷ qs) → RunsInB0 q × ((p : Part) → Contains ps p → RunApart p q)
  runs_before [] q qs f = (f.0, λ p c. absurd (nothing_in p c))
  runs_before (x ∷ ps) q qs f =
      let rest = runs_before ps q qs f.2 in (
        rest.0,
        λ p c. elim (in_front x p ps c) [
          | inl same ↦ subst (λ (y : Part). RunApart y q) same (each_in (RunApart x) (ps ++ q ∷ qs) q f.1 (Contains-append_right ps (q ∷ qs) q (first_in q qs)))
          | inr later ↦ rest.1 p later
        ],
      )

  inside_of : (from : ℕ) (ps : List Part) (q : Part) → Follow from ps → Contains ps q → (0 < size_of q) × (q.address + size_of q ≤ 65536)
  inside_of from [] q f c = absurd (nothing_in q c)
  inside_of from (p ∷ ps) q (low, some, inside, f) c = elim (in_front p q ps c) [
    | inl same ↦ subst (λ (x : Part). (0 < size_of x) × (x.address + size_of x ≤ 65536)) same (some, inside)
    | inr later ↦ inside_of (p.address + size_of p) ps q f later
  ]

  -- ---- no section is refused its place

  three : (a b c : Bool) → c ≡ false → (a && b && c) ≡ false
  three true true c e = e
  three true false c e = refl
  three false b c e = refl

  two : (a b : Bool) → b ≡ false → (a && b) ≡ false
  two true b e = e
  two false b e = refl

  none_of_places : (f : Place → Bool) (places : List Place) → ((x : Place) → Contains places x → f x ≡ false) → list_any f places ≡ false
  none_of_places f [] each = refl
  none_of_places f (x ∷ places) each = (λ i. each x (first_in x places) i || none_of_places f places (λ y c. each y (behind_in x y places c)) i)

  abbrev program : RangeData
  program = record { page = 0; name = codes "PROG"; origin = 0; size = 65536 }

  not_base : (address size : ℕ) (blocks : List BlockData) (ranges : List RangeData) (places : List Place) → may_stand address size blocks ranges ≡ true → IsFree 0 address size places → (why : LinkFault) → IsBaseAt address 0 size blocks ranges places (Err why) → ⊥
  not_base address size blocks ranges places may free fault.Unresolved k = k
  not_base address size blocks ranges places may free fault.DefinedTwice k = k
  not_base address size blocks ranges places may free fault.NoRange k = k
  not_base address size blocks ranges places may free fault.DoesNotFit k = false≢true (sym k ∙ may)
  not_base address size blocks ranges places may free fault.Overlap k = k.1 free
  not_base address size blocks ranges places may free fault.RelocRange k = k
  not_base address size blocks ranges places may free fault.NoEntry k = k
  not_base address size blocks ranges places may free fault.BadRun k = k

  module _ (ps : List Part) (q : Part) (qs : List Part) (all : parts ≡ ps ++ q ∷ qs) (places : List Place) (placed : ArePlaced default_ranges (map ask ps) places) (runs : RunsFit parts) where
    here : Contains parts q
    here = subst (λ (xs : List Part). Contains xs q) (sym all) (Contains-append_right ps (q ∷ qs) q (first_in q qs))

    stands : (x : Place) → Contains places x → (p : Part) × Contains ps p × IsOf p x
    stands = placed_of default_ranges ps places (λ p c. subst (λ (xs : List Part). Contains xs p) (sym all) (Contains-append_left ps (q ∷ qs) p c)) placed

    free : IsFree 0 q.address (ask q).size places
    free = λ word covers. none_of_places (has_word 0 word) places (λ x c.
        let p = stands x c in
        let base = p.2.base in
        let size = p.2.size in
        let from = covers.from in
        let before = ends_before 0 ps q qs (subst (Follow 0) all follow) p.0 p.1 in
        let past : nat_lt word (x.base + x.size) ≡ false = grind (arith, nat_tests, base, size, from, before) in
        three (x.page == 0) (nat_le x.base word) (nat_lt word (x.base + x.size)) past)

    may : may_stand q.address (ask q).size (ask q).blocks (program ∷ []) ≡ true
    may =
        let bounds = inside_of 0 parts q follow here in
        let some = bounds.0 in
        let inside = bounds.1 in
        let size = asked_size q here in
        let most : max (ask q).size 1 ≡ size_of q = omega (arith, size, some) in
        let fits : nat_le (q.address + max (ask q).size 1) (0 + 65536) ≡ true = grind (arith, nat_tests, most, inside) in
        (λ i. may_stand q.address (ask q).size (no_blocks (section_of q.address) i) (program ∷ [])) ∙ ap (λ (b : Bool). (nat_le 0 q.address && b) || false) fits ∙ low
      where
        low : ((nat_le 0 q.address && true) || false) ≡ true
        low = grind (arith, nat_tests)

    own_runs : (o : Option ℕ) → q.run ≡ o → IfSome o (λ run. (0xFF00 ≤ run) × (run + size_of q ≤ 0x10000)) → IfSome o (RunsAt default_ranges places (ask q))
    own_runs None is k = tt
    own_runs (Some run) is k =
        let size = asked_size q here in
        let some = (inside_of 0 parts q follow here).0 in
        let low = k.0 in
        let high = k.1 in
        record {
          from = low;
          below = omega (arith, high, some);
          upto = omega (arith, high, size);
          initialised = asked_loaded q here;
          page = refl;
          free = λ word covers. none_of_places (runs_at word) places (λ x c.
              let p = stands x c in
              let from = covers.from in
              let to = covers.upto in
              apart word from (omega (arith, to, size)) x p.0 p.2 p.0.run refl ((runs_before ps q qs (subst RunsFit all runs)).1 p.0 p.1));
        }
      where
        apart : (word : ℕ) → run ≤ word → word < run + size_of q → (x : Place) (p : Part) → IsOf p x → (other : Option ℕ) → p.run ≡ other → RunApart p q → runs_at word x ≡ false
        apart word from to x p of None e k = ap (λ (o : Option ℕ). option_map_or (λ run. nat_le run word && nat_lt word (run + x.size)) o false) (of.run ∙ e)
        apart word from to x p of (Some other) e k =
            let both : (other + size_of p ≤ run) ⊎ (run + size_of q ≤ other) =
            subst (λ (o : Option ℕ). IfSome o (λ run. (other + size_of p ≤ run) ⊎ (run + size_of q ≤ other))) is (subst (λ (o : Option ℕ). IfSome o (λ other. IfSome q.run (λ run. (other + size_of p ≤ run) ⊎ (run + size_of q ≤ other)))) e k) in
            ap (λ (o : Option ℕ). option_map_or (λ run. nat_le run word && nat_lt word (run + x.size)) o false) (of.run ∙ e)
            ∙ go both
          where
            go : (other + size_of p ≤ run) ⊎ (run + size_of q ≤ other) → (nat_le other word && nat_lt word (other + x.size)) ≡ false
            go (inl before) = let size = of.size in let past : nat_lt word (other + x.size) ≡ false = grind (arith, nat_tests, size, before, from) in two (nat_le other word) (nat_lt word (other + x.size)) past
            go (inr behind) = let early : nat_le other word ≡ false = grind (arith, nat_tests, behind, to) in ap (λ (b : Bool). b && nat_lt word (other + x.size)) early

    part_stands : (why : LinkFault) → IsUnfit default_ranges places (ask q) why → ⊥
    part_stands why (inl refused) = not_base q.address (ask q).size (ask q).blocks (program ∷ []) places may free why refused
    part_stands why (inr (base, is, unrun, e)) = unrun (own_runs q.run refl ((runs_before ps q qs (subst RunsFit all runs)).0))

  text_stands : (places : List Place) (why : LinkFault) → IsUnfit default_ranges places text why → ⊥
  text_stands places why (inr (base, is, unrun, e)) = unrun tt
  text_stands places why (inl refused) = go (is_initialised (codes ".text") alone) why refused
    where
      go : (i : Bool) (why : LinkFault)
          → IsBase Anywhere (if i then 0 else 1) text.size text.blocks (filter (is_usable Anywhere (if i then 0 else 1)) default_ranges) places (Err why) → ⊥
      go true fault.Unresolved k = k
      go true fault.DefinedTwice k = k
      go true fault.NoRange k = k
      go true fault.DoesNotFit k = let some = k.0 in let none = text_none in omega (arith, some, none)
      go true fault.Overlap k = k
      go true fault.RelocRange k = k
      go true fault.NoEntry k = k
      go true fault.BadRun k = k
      go false fault.Unresolved k = k
      go false fault.DefinedTwice k = k
      go false fault.NoRange k = k
      go false fault.DoesNotFit k = let some = k.0 in let none = text_none in omega (arith, some, none)
      go false fault.Overlap k = k
      go false fault.RelocRange k = k
      go false fault.NoEntry k = k
      go false fault.BadRun k = k

  -- which request is refused
  abbrev IsSplit : (before : List Request) (refused : Request) (ps : List Part) → Type 0
  IsSplit before refused ps = (xs : List Part) × (q : Part) × (qs : List Part) × (ps ≡ xs ++ q ∷ qs) × (before ≡ map ask xs) × (refused ≡ ask q)

  split : (ps : List Part) (before : List Request) (refused : Request) (after : List Request) → map ask ps ++ text ∷ [] ≡ before ++ refused ∷ after → IsSplit before refused ps ⊎ (refused ≡ text)
  split [] [] refused after e = let same : text ≡ refused = cc in inr (sym same)
  split [] (b ∷ []) refused after e = absurd (cc)
  split [] (b ∷ c ∷ before) refused after e = absurd (cc)
  split (p ∷ ps) [] refused after e = let same : ask p ≡ refused = cc in inl ([], p, ps, refl, refl, sym same)
  split (p ∷ ps) (b ∷ before) refused after e =
      let first : ask p ≡ b = cc in
      let others : map ask ps ++ text ∷ [] ≡ before ++ refused ∷ after = cc in
      elim (split ps before refused after others) [
        | inl (xs, q, qs, all, is, same) ↦ inl (p ∷ xs, q, qs, ap (λ (ys : List Part). p ∷ ys) all, (λ i. sym first i ∷ is i), same)
        | inr same ↦ inr same
      ]

  pub all_placed : RunsFit parts → (refusal : Placed (List ℕ) LinkFault) → IsUnplaced default_ranges (requests alone (map placing_of parts)) refusal → ⊥
  all_placed runs refusal u =
      elim (split parts u.before u.refused u.after (sym requests_are ∙ u.requests_are)) [
        | inl (xs, q, qs, all, is, same) ↦
            part_stands xs q qs all u.places (subst (λ (rs : List Request). ArePlaced default_ranges rs u.places) is u.placed) runs refusal.fault (subst (λ (r : Request). IsUnfit default_ranges u.places r refusal.fault) same u.fault_is)
        | inr same ↦ text_stands u.places refusal.fault (subst (λ (r : Request). IsUnfit default_ranges u.places r refusal.fault) same u.fault_is)
      ]

  -- ---- the sections' places

  abbrev place_of : Part → Place
  place_of p = record { name = section_of p.address; page = 0; base = p.address; size = size_of p; run = p.run }

  placed_more : (ranges : List RangeData) (rs : List Request) (places : List Place) (r : Request) (x : Place) → ArePlaced ranges rs places → Stands ranges places r x → ArePlaced ranges (rs ++ r ∷ []) (places ++ x ∷ [])
  placed_more ranges rs places r x placed stands =
      subst (λ (ys : List Request). Stand ranges ys (reverse (places ++ x ∷ []))) (sym (reverse-append rs (r ∷ [])))
      (subst (λ (ys : List Place). Stand ranges (r ∷ reverse rs) ys) (sym (reverse-append places (x ∷ [])))
      (subst (λ (before : List Place). Stands ranges before r x) (sym (reverse-reverse places)) stands, placed))

  part_stands_there : (ps : List Part) (q : Part) (qs : List Part) (all : parts ≡ ps ++ q ∷ qs) (places : List Place) → ArePlaced default_ranges (map ask ps) places → RunsFit parts → Stands default_ranges places (ask q) (place_of q)
  part_stands_there ps q qs all places placed runs = record {
    name_is = refl;
    page_is = refl;
    size_is = sym (asked_size q (here ps q qs all places placed runs));
    base_is = (refl, may ps q qs all places placed runs, free ps q qs all places placed runs);
    run_is = refl;
    runs = own_runs ps q qs all places placed runs q.run refl ((runs_before ps q qs (subst RunsFit all runs)).0);
  }

  parts_placed : RunsFit parts → (ps qs : List Part) → parts ≡ ps ++ qs → ArePlaced default_ranges (map ask ps) (map place_of ps) → ArePlaced default_ranges (map ask parts) (map place_of parts)
  parts_placed runs ps [] all placed = let same : ps ≡ parts = sym (append-nil ps) ∙ sym all in subst (λ (xs : List Part). ArePlaced default_ranges (map ask xs) (map place_of xs)) same placed
  parts_placed runs ps (q ∷ qs) all placed =
      parts_placed runs (ps ++ q ∷ []) qs (all ∙ sym (append_assoc ps (q ∷ []) qs))
      (subst (λ (rs : List Request). ArePlaced default_ranges rs (map place_of (ps ++ q ∷ []))) (sym (map-append ask ps (q ∷ [])))
      (subst (λ (xs : List Place). ArePlaced default_ranges (map ask ps ++ ask q ∷ []) xs) (sym (map-append place_of ps (q ∷ [])))
      (placed_more default_ranges (map ask ps) (map place_of ps) (ask q) (place_of q) placed (part_stands_there ps q qs all (map place_of ps) placed runs))))

  -- `.text` has no words, so it stands at the origin of the first range of its page
  text_there : (places : List Place) → (x : Place) × Stands default_ranges places text x
  text_there places = go (is_initialised (codes ".text") alone) refl
    where
      no_words : 0 < text.size → ⊥
      no_words some = let none = text_none in omega (arith, some, none)

      go : (i : Bool) → is_initialised (codes ".text") alone ≡ i → (x : Place) × Stands default_ranges places text x
      go true e = (
        record { name = codes ".text"; page = 0; base = 0; size = text.size; run = None },
        record {
          name_is = refl;
          page_is = ap {B = ℕ} (λ (i : Bool). if i then 0 else 1) (sym e);
          size_is = refl;
          base_is = subst (λ (i : Bool). IsBase Anywhere (if i then 0 else 1) text.size text.blocks (filter (is_usable Anywhere (if i then 0 else 1)) default_ranges) places (Ok 0)) (sym e) (λ none. refl, λ some. absurd (no_words some));
          run_is = refl;
          runs = tt;
        },
      )
      go false e = (
        record { name = codes ".text"; page = 1; base = 768; size = text.size; run = None },
        record {
          name_is = refl;
          page_is = ap {B = ℕ} (λ (i : Bool). if i then 0 else 1) (sym e);
          size_is = refl;
          base_is = subst (λ (i : Bool). IsBase Anywhere (if i then 0 else 1) text.size text.blocks (filter (is_usable Anywhere (if i then 0 else 1)) default_ranges) places (Ok 768)) (sym e) (λ none. refl, λ some. absurd (no_words some));
          run_is = refl;
          runs = tt;
        },
      )

  pub places_there : RunsFit parts → (places : List Place) × ArePlaced default_ranges (requests alone (map placing_of parts)) places
  places_there runs =
      let placed = parts_placed runs [] parts refl tt in
      let last = text_there (map place_of parts) in
      (map place_of parts ++ last.0 ∷ [], subst (λ (rs : List Request). ArePlaced default_ranges rs (map place_of parts ++ last.0 ∷ [])) (sym requests_are) (placed_more default_ranges (map ask parts) (map place_of parts) text last.0 placed last.1))
