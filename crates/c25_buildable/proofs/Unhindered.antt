-- When nothing hinders parts of an image, their texts are built.
use Rattle.std.proofs.Common.{◌≡◌, ℕ, ◌+◌, ◌-◌, ◌<◌, ◌≤◌, Bool, true, false, cond, List, [], ◌∷◌, ◌++◌, length, map, Option, Some, None, refl, sym, ap, ◌∙◌, subst, arith, append_assoc}
use Rattle.std.specs.Prelude.{IfOk, IfSome, Result, Ok, Err, String, string_bytes}
use Rattle.std.specs.FinMap as finite
use Rattle.std.specs.List.{All, AllByRecursion, flat_map}
use Rattle.std.specs.Map.{lookup}
use Rattle.std.specs.Ordering.{nat_cmp}
use Rattle.std.specs.Str.{bytes_eq}
use Rattle.std.specs.declared.alloc.Global.{Global}
use Rattle.std.proofs.lemmas.List.Elements.{All-from_recursion, recursion_from_All}
use Rattle.std.proofs.lemmas.Slice.Eq.{bytes_eq-Decides}
use Rattle.c25_buildable.specs.Places.{AreFew, AreNames, AreShort, HasTarget, HaveTargets, IsOwn, Stands, all_names, part_names, row_names}
use Rattle.c25_layout.specs.Buildable.{IsBuildable, RunsFit, RunsInB0}
use Rattle.c25_layout.specs.Layout.{ArePartsOf, AreRows, Follow, IsItem, IsPart, IsSayable, StandAt, item_words, rows_words}
use Rattle.c25_layout.specs.Layouts.{IsLabel, IsRow, address_of, named, names_from, names_of, run_address}
use Rattle.c25_layout.specs.Names.{IsMet, IsRowItem}
use Rattle.c25_layout.specs.declared.layout.Item.{Item}
use Rattle.c25_layout.specs.declared.layout.Item.TheVariants as item
use Rattle.c25_layout.specs.declared.layout.Part.{Part}
use Rattle.c25_layout.specs.declared.layout.Row.{Row}
use Rattle.c25_layout.specs.declared.layout.Target.{Target}
use Rattle.c25_meaning_image.specs.WordMap.{IsWordMap}
use Rattle.c25_meaning_language.specs.Value.{predefined}

-- ---- names

rows_same : (image : finite.FinMap nat_cmp ℕ) (p : Part) (o : ℕ) (rows : List Row) → AreRows image (p.address + o) rows → flat_map (row_names p) rows ≡ names_from (p.address + o) (run_address p + o) rows
rows_same image p o [] are = refl
rows_same image p o (r ∷ rows) are =
    let n = length (item_words r.item) in
    let at = are.0 in
    let off : r.address - p.address ≡ o = omega (arith, at) in
    let load : p.address + (o + n) ≡ p.address + o + n = omega arith in
    let run : run_address p + (o + n) ≡ run_address p + o + n = omega arith in
    let rest : flat_map (row_names p) rows ≡ names_from (p.address + o + n) (run_address p + o + n) rows =
    rows_same image p (o + n) rows (subst (λ (a : ℕ). AreRows image a rows) (sym load) are.2) ∙ (λ i. names_from (load i) (run i) rows) in
    (λ i. (named r.load_label (at i) ++ named r.label (run_address p + off i)) ++ rest i)
    ∙ append_assoc (named r.load_label (p.address + o)) (named r.label (run_address p + o)) (names_from (p.address + o + n) (run_address p + o + n) rows)

part_same : (image : finite.FinMap nat_cmp ℕ) (p : Part) → IsPart image p → part_names p ≡ names_from p.address (run_address p) p.rows.items
part_same image p are =
    let load : p.address + 0 ≡ p.address = omega arith in
    let run : run_address p + 0 ≡ run_address p = omega arith in
    rows_same image p 0 p.rows.items (subst (λ (a : ℕ). AreRows image a p.rows.items) (sym load) are) ∙ (λ i. names_from (load i) (run i) p.rows.items)

pub names_same : (image : finite.FinMap nat_cmp ℕ) (parts : List Part) → AllByRecursion (IsPart image) parts → all_names parts ≡ names_of parts
names_same image [] are = refl
names_same image (p ∷ parts) are = λ i. part_same image p are.0 i ++ names_same image parts are.1 i

-- ---- sizes

pub all_short : (from : ℕ) (parts : List Part) → Follow from parts → AreShort parts
all_short from [] follow = tt
all_short from (p ∷ parts) follow = let inside = follow.2 in (omega (arith, inside), all_short (p.address + length (rows_words p.rows.items)) parts follow.3)

small_words : (image : finite.FinMap nat_cmp ℕ) (address : ℕ) (ws : List ℕ) → IsWordMap image → StandAt image address ws → AllByRecursion (λ w. w < 65536) ws
small_words image address [] fits stand = tt
small_words image address (w ∷ ws) fits stand = ((fits address w stand.0).1, small_words image (address + 1) ws fits stand.1)

-- ---- rows

apart_of : {A : Type 0} (P : A → Type 0) (xs ys : List A) → AllByRecursion P (xs ++ ys) → AllByRecursion P xs × AllByRecursion P ys
apart_of P [] ys all = (tt, all)
apart_of P (x ∷ xs) ys all = let rest = apart_of P xs ys all.1 in ((all.0, rest.0), rest.1)

label_of : (o : Option (String Global)) (address : ℕ) → AllByRecursion IsOwn (named o address) → IsLabel o
label_of None address all = tt
label_of (Some name) address all = (all.0).0

own_of : (ns : List (List ℕ × ℕ)) (name : List ℕ) (at : ℕ) → AllByRecursion IsOwn ns → lookup (bytes_eq name) ns ≡ Some at → IsOwn (name, at)
own_of [] name at all e = absurd (cc)
own_of (n ∷ ns) name at all e = go (bytes_eq name n.0) refl e (own_of ns name at all.1)
  where
    go : (t : Bool) → bytes_eq name n.0 ≡ t → cond t (Some n.1) (lookup (bytes_eq name) ns) ≡ Some at → (lookup (bytes_eq name) ns ≡ Some at → IsOwn (name, at)) → IsOwn (name, at)
    go true is e rest = subst (λ (text : List ℕ). IsOwn (text, at)) (sym ((bytes_eq-Decides name n.0).0 is)) (all.0)
    go false is e rest = rest e

met : (ns : List (List ℕ × ℕ)) (number : ℕ) (t : Target) → AllByRecursion IsOwn ns → Stands ns number t → IsMet (λ name. lookup (bytes_eq name) ns) number t
met ns number t all s =
    let own = own_of ns (string_bytes t.name) s.at all s.found in
    record { name = own.0; own = own.1; small = s.small; at = s.at; stands = s.found; number_is = s.number_is }

item_said : (image : finite.FinMap nat_cmp ℕ) (address : ℕ) (ns : List (List ℕ × ℕ)) (i : Item) → IsWordMap image → AllByRecursion IsOwn ns → IsItem image address i → HasTarget ns i → IsRowItem (λ name. lookup (bytes_eq name) ns) i
item_said image address ns (item.Plain i) fits all is has = is.sayable
item_said image address ns (item.Named i t) fits all is has = record { in_range = is.sayable; number = has.0; word = has.1; met = met ns has.0 t all has.2 }
item_said image address ns (item.Words ws) fits all is has = (All-from_recursion (λ w. w < 65536) ws.items (small_words image address ws.items fits is.stands), is.sayable)
item_said image address ns (item.Address number t) fits all is has = ((fits address number (is.stands).0).1, met ns number t all has)

rows_said : (image : finite.FinMap nat_cmp ℕ) (address load run : ℕ) (ns : List (List ℕ × ℕ)) (rows : List Row) → IsWordMap image → AllByRecursion IsOwn ns → AreRows image address rows → AllByRecursion (λ (r : Row). HasTarget ns r.item) rows
    → AllByRecursion IsOwn (names_from load run rows) → AllByRecursion (IsRow (λ name. lookup (bytes_eq name) ns)) rows
rows_said image address load run ns [] fits all are has own = tt
rows_said image address load run ns (r ∷ rows) fits all are has own =
    let n = length (item_words r.item) in
    let first = apart_of IsOwn (named r.load_label load) (named r.label run ++ names_from (load + n) (run + n) rows) own in
    let second = apart_of IsOwn (named r.label run) (names_from (load + n) (run + n) rows) first.1 in (
      record { item = item_said image address ns r.item fits all are.1 has.0; some = (are.1).some; label = label_of r.label run second.0; load_label = label_of r.load_label load first.0 },
      rows_said image (address + n) (load + n) (run + n) ns rows fits all are.2 has.1 second.1,
    )

parts_said : (image : finite.FinMap nat_cmp ℕ) (ns : List (List ℕ × ℕ)) (parts : List Part) → IsWordMap image → AllByRecursion IsOwn ns → AllByRecursion (IsPart image) parts → AllByRecursion (λ (p : Part). All (λ (r : Row). HasTarget ns r.item) p.rows.items) parts
    → AllByRecursion IsOwn (names_of parts) → AllByRecursion (λ (p : Part). All (IsRow (λ name. lookup (bytes_eq name) ns)) p.rows.items) parts
parts_said image ns [] fits all are has own = tt
parts_said image ns (p ∷ parts) fits all are has own =
    let two = apart_of IsOwn (names_from p.address (run_address p) p.rows.items) (names_of parts) own in (
      All-from_recursion (IsRow (λ name. lookup (bytes_eq name) ns)) p.rows.items (rows_said image p.address p.address (run_address p) ns p.rows.items fits all are.0 (recursion_from_All (λ (r : Row). HasTarget ns r.item) p.rows.items has.0) two.0),
      parts_said image ns parts fits all are.1 has.1 two.1,
    )

-- ---- where parts run

below : (from : ℕ) (parts : List Part) → Follow from parts → RunsFit parts → AllByRecursion (λ (p : Part). IfSome p.run (λ run. run < 65536)) parts
below from [] follow runs = tt
below from (p ∷ parts) follow runs = (go p.run runs.0, below (p.address + length (rows_words p.rows.items)) parts follow.3 runs.2)
  where
    go : (o : Option ℕ) → IfSome o (λ run. (0xFF00 ≤ run) × (run + length (rows_words p.rows.items) ≤ 0x10000)) → IfSome o (λ run. run < 65536)
    go None h = tt
    go (Some run) h = let some = follow.1 in let high = h.1 in omega (arith, some, high)

-- ---- all

pub is_buildable : (image : finite.FinMap nat_cmp ℕ) (blank : ℕ) (parts : List Part) → IsWordMap image → ArePartsOf image blank parts → length parts ≤ 254 → length (all_names parts) ≤ 65535 → AreNames (all_names parts) parts → IsBuildable parts
is_buildable image blank parts fits are few_parts few_names names =
    let stand = recursion_from_All (IsPart image) parts are.stand in
    let same = names_same image parts stand in
    let here = subst (λ (ns : List (List ℕ × ℕ)). AreNames ns parts) same names in
    let few = ap (λ (ns : List (List ℕ × ℕ)). length ns) same in
    let said = parts_said image (names_of parts) parts fits here.own stand (recursion_from_All (λ (p : Part). All (λ (r : Row). HasTarget (names_of parts) r.item) p.rows.items) parts here.targets) here.own in
    record {
      source = record {
        layout = record {
          follow = are.follow;
          runs = All-from_recursion (λ (p : Part). IfSome p.run (λ run. run < 65536)) parts (below 0 parts are.follow here.runs);
          rows = All-from_recursion (λ (p : Part). All (IsRow (address_of parts)) p.rows.items) parts said;
        };
        few_parts = few_parts;
        few_names = omega (arith, few, few_names);
        apart = here.apart;
        own = All-from_recursion (λ (n : List ℕ × ℕ). predefined n.0 ≡ None) (names_of parts) (own_names (names_of parts) here.own);
      };
      runs = here.runs;
    }
  where
    own_names : (ns : List (List ℕ × ℕ)) → AllByRecursion IsOwn ns → AllByRecursion (λ (n : List ℕ × ℕ). predefined n.0 ≡ None) ns
    own_names [] all = tt
    own_names (n ∷ ns) all = ((all.0).1, own_names ns all.1)

-- parts whose names hinder nothing are built
pub fine_built : {E : Type 0} (image : finite.FinMap nat_cmp ℕ) (blank : ℕ) (parts : List Part) → IsWordMap image → ArePartsOf image blank parts → length parts ≤ 254 → (r : Result Bool E)
    → IfOk r (λ fine. fine ≡ true → length (all_names parts) ≤ 65535) → IfOk r (λ fine. fine ≡ true → AreNames (all_names parts) parts) → IfOk r (λ fine. fine ≡ true → IsBuildable parts)
fine_built image blank parts fits are few (Err e) few_names names = tt
fine_built image blank parts fits are few (Ok fine) few_names names = λ so. is_buildable image blank parts fits are few (few_names so) (names so)
