-- Parts without their names are those of the same image, and they are built to its words.
use Rattle.std.proofs.Common.{◌≡◌, ◌⊎◌, ℕ, ◌+◌, ◌-◌, ◌<◌, ◌≤◌, List, [], ◌∷◌, ◌++◌, length, get_or, take, Option, None, Some, refl, sym, ap, ◌∙◌, subst, inl, inr, arith}
use Rattle.std.specs.Prelude.{IfOk, IfSome, Result, Ok, Err, String, Vec}
use Rattle.std.specs.FinMap as finite
use Rattle.std.specs.List.{All, AllByRecursion, flat_map}
use Rattle.std.specs.Ordering.{nat_cmp}
use Rattle.std.specs.declared.alloc.Global.{Global}
use Rattle.std.proofs.lemmas.List.{take_all, take_more}
use Rattle.std.proofs.lemmas.List.Elements.{All-from_recursion, recursion_from_All}
use Rattle.c25_buildable.proofs.Unhindered.{is_buildable}
use Rattle.c25_buildable.specs.Bare.{AreBareParts, AreBareRows, IsBareItem, IsBarePart, IsBareRow, IsNameless}
use Rattle.c25_buildable.specs.Places.{AreNames, HasTarget, HaveTargets, all_names, part_names, row_names}
use Rattle.c25_layout.specs.Blank.{IsBlank}
use Rattle.c25_layout.specs.Buildable.{IsBuildable, RunApart, RunsFit, RunsInB0}
use Rattle.c25_layout.specs.Layout.{ArePartsOf, AreRows, Follow, IsInOne, IsIn, IsItem, IsPart, StandAt, item_words, parts_words, rows_words}
use Rattle.c25_layout.specs.Layouts.{named, run_address}
use Rattle.c25_layout.specs.declared.layout.Item.{Item}
use Rattle.c25_layout.specs.declared.layout.Item.TheVariants as item
use Rattle.c25_layout.specs.declared.layout.Part.{Part}
use Rattle.c25_layout.specs.declared.layout.Row.{Row}
use Rattle.c25_meaning_image.specs.WordMap.{IsWordMap}

-- ---- one more

pub row_more : (rows bare : List Row) (r b : Row) → AreBareRows rows bare → IsBareRow r b → AreBareRows (rows ++ r ∷ []) (bare ++ b ∷ [])
row_more [] [] r b are is = (is, tt)
row_more [] (c ∷ bare) r b are is = absurd are
row_more (x ∷ rows) [] r b are is = absurd are
row_more (x ∷ rows) (c ∷ bare) r b are is = (are.0, row_more rows bare r b are.1 is)

pub part_more : (parts bare : List Part) (p b : Part) → AreBareParts parts bare → IsBarePart p b → AreBareParts (parts ++ p ∷ []) (bare ++ b ∷ [])
part_more [] [] p b are is = (is, tt)
part_more [] (c ∷ bare) p b are is = absurd are
part_more (x ∷ parts) [] p b are is = absurd are
part_more (x ∷ parts) (c ∷ bare) p b are is = (are.0, part_more parts bare p b are.1 is)

pub rows_so_far : (rows made next : List Row) (i : ℕ) (r b : Row) → i < length rows → r ≡ get_or rows i r → AreBareRows (take i rows) made → IsBareRow r b → next ≡ made ++ b ∷ [] → AreBareRows (take (i + 1) rows) next
rows_so_far rows made next i r b lt is so_far bare grown =
    let more = row_more (take i rows) made r b so_far bare in
    let here : AreBareRows (take (i + 1) rows) (made ++ b ∷ []) = subst (λ (xs : List Row). AreBareRows xs (made ++ b ∷ [])) (sym (take_more rows i r lt ∙ ap (λ (q : Row). take i rows ++ q ∷ []) (sym is))) more in
    subst (λ (ys : List Row). AreBareRows (take (i + 1) rows) ys) (sym grown) here

pub rows_done : (rows made : List Row) (i : ℕ) → length rows ≤ i → AreBareRows (take i rows) made → AreBareRows rows made
rows_done rows made i past are = subst (λ (xs : List Row). AreBareRows xs made) (take_all i rows past) are

pub parts_so_far : (parts made next : List Part) (i : ℕ) (p b : Part) → i < length parts → p ≡ get_or parts i p → AreBareParts (take i parts) made → IsBarePart p b → next ≡ made ++ b ∷ [] → AreBareParts (take (i + 1) parts) next
parts_so_far parts made next i p b lt is so_far bare grown =
    let more = part_more (take i parts) made p b so_far bare in
    let here : AreBareParts (take (i + 1) parts) (made ++ b ∷ []) = subst (λ (xs : List Part). AreBareParts xs (made ++ b ∷ [])) (sym (take_more parts i p lt ∙ ap (λ (q : Part). take i parts ++ q ∷ []) (sym is))) more in
    subst (λ (ys : List Part). AreBareParts (take (i + 1) parts) ys) (sym grown) here

pub parts_done : (parts made : List Part) (i : ℕ) → length parts ≤ i → AreBareParts (take i parts) made → AreBareParts parts made
parts_done parts made i past are = subst (λ (xs : List Part). AreBareParts xs made) (take_all i parts past) are

-- ---- words

rows_same : (rows bare : List Row) → AreBareRows rows bare → rows_words bare ≡ rows_words rows
rows_same [] [] are = refl
rows_same [] (b ∷ bare) are = absurd are
rows_same (r ∷ rows) [] are = absurd are
rows_same (r ∷ rows) (b ∷ bare) are =
    let here = ((are.0).item).words in
    let rest = rows_same rows bare are.1 in
    λ i. here i ++ rest i

size_same : (p b : Part) → IsBarePart p b → length (rows_words b.rows.items) ≡ length (rows_words p.rows.items)
size_same p b is = ap (λ (ws : List ℕ). length ws) (rows_same p.rows.items b.rows.items is.rows)

words_same : (parts bare : List Part) → AreBareParts parts bare → parts_words bare ≡ parts_words parts
words_same [] [] are = refl
words_same [] (b ∷ bare) are = absurd are
words_same (p ∷ parts) [] are = absurd are
words_same (p ∷ parts) (b ∷ bare) are =
    let here = rows_same p.rows.items b.rows.items (are.0).rows in
    let rest = words_same parts bare are.1 in
    λ i. here i ++ rest i

-- ---- in the image

item_stands : (image : finite.FinMap nat_cmp ℕ) (address : ℕ) (i b : Item) → IsBareItem i b → IsItem image address i → IsItem image address b
item_stands image address i b is stands =
    let same = sym is.words in
    let long = ap (λ (ws : List ℕ). length ws) same in
    let some = stands.some in
    let inside = stands.inside in
    record {
      stands = subst (λ (ws : List ℕ). StandAt image address ws) same stands.stands;
      some = omega (arith, long, some);
      inside = omega (arith, long, inside);
      sayable = is.sayable stands.sayable;
    }

rows_stand : (image : finite.FinMap nat_cmp ℕ) (address : ℕ) (rows bare : List Row) → AreBareRows rows bare → AreRows image address rows → AreRows image address bare
rows_stand image address [] [] are stand = tt
rows_stand image address [] (b ∷ bare) are stand = absurd are
rows_stand image address (r ∷ rows) [] are stand = absurd are
rows_stand image address (r ∷ rows) (b ∷ bare) are stand =
    let long : address + length (item_words r.item) ≡ address + length (item_words b.item) = ap (λ (ws : List ℕ). address + length ws) (sym ((are.0).item).words) in (
      (are.0).address ∙ stand.0,
      item_stands image address r.item b.item (are.0).item stand.1,
      subst (λ (a : ℕ). AreRows image a bare) long (rows_stand image (address + length (item_words r.item)) rows bare are.1 stand.2),
    )

part_stands : (image : finite.FinMap nat_cmp ℕ) (p b : Part) → IsBarePart p b → IsPart image p → IsPart image b
part_stands image p b is stands = subst (λ (a : ℕ). AreRows image a b.rows.items) (sym is.address) (rows_stand image p.address p.rows.items b.rows.items is.rows stands)

parts_stand : (image : finite.FinMap nat_cmp ℕ) (parts bare : List Part) → AreBareParts parts bare → AllByRecursion (IsPart image) parts → AllByRecursion (IsPart image) bare
parts_stand image [] [] are stand = tt
parts_stand image [] (b ∷ bare) are stand = absurd are
parts_stand image (p ∷ parts) [] are stand = absurd are
parts_stand image (p ∷ parts) (b ∷ bare) are stand = (part_stands image p b are.0 stand.0, parts_stand image parts bare are.1 stand.1)

follow : (from : ℕ) (parts bare : List Part) → AreBareParts parts bare → Follow from parts → Follow from bare
follow from [] [] are h = tt
follow from [] (b ∷ bare) are h = absurd are
follow from (p ∷ parts) [] are h = absurd are
follow from (p ∷ parts) (b ∷ bare) are h =
    let size = size_same p b are.0 in
    let place = (are.0).address in
    let first = h.0 in
    let some = h.1 in
    let inside = h.2 in
    let end : p.address + length (rows_words p.rows.items) ≡ b.address + length (rows_words b.rows.items) = omega (arith, size, place) in (
      omega (arith, place, first),
      omega (arith, size, some),
      omega (arith, size, place, inside),
      subst (λ (a : ℕ). Follow a bare) end (follow (p.address + length (rows_words p.rows.items)) parts bare are.1 h.3),
    )

in_one : (parts bare : List Part) (address : ℕ) → AreBareParts parts bare → IsInOne parts address → IsInOne bare address
in_one [] [] address are h = h
in_one [] (b ∷ bare) address are h = absurd are
in_one (p ∷ parts) [] address are h = absurd are
in_one (p ∷ parts) (b ∷ bare) address are (inl here) =
    let size = size_same p b are.0 in
    let place = (are.0).address in
    let first = here.0 in
    let last = here.1 in
    inl (omega (arith, place, first), omega (arith, size, place, last))
in_one (p ∷ parts) (b ∷ bare) address are (inr later) = inr (in_one parts bare address are.1 later)

still_in : (image : finite.FinMap nat_cmp ℕ) (blank address : ℕ) (parts bare : List Part) → AreBareParts parts bare → IsInOne parts address ⊎ IsBlank image blank address → IsInOne bare address ⊎ IsBlank image blank address
still_in image blank address parts bare are (inl here) = inl (in_one parts bare address are here)
still_in image blank address parts bare are (inr long) = inr long

pub same_image : (image : finite.FinMap nat_cmp ℕ) (blank : ℕ) (parts bare : List Part) → AreBareParts parts bare → ArePartsOf image blank parts → ArePartsOf image blank bare
same_image image blank parts bare are h =
    let few = h.few in
    let long = ap (λ (ws : List ℕ). length ws) (words_same parts bare are) in
    record {
      stand = All-from_recursion (IsPart image) bare (parts_stand image parts bare are (recursion_from_All (IsPart image) parts h.stand));
      follow = follow 0 parts bare are h.follow;
      whole = λ address word small is. still_in image blank address parts bare are (h.whole address word small is);
      few = omega (arith, long, few);
    }

-- ---- no names

no_label : (o : Option (String Global)) (address : ℕ) → o ≡ None → named o address ≡ []
no_label None address e = refl
no_label (Some name) address e = absurd (cc)

row_bare : (q : Part) (r b : Row) → IsBareRow r b → row_names q b ≡ []
row_bare q r b is =
    let first = no_label b.load_label b.address is.load_label in
    let second = no_label b.label (run_address q + (b.address - q.address)) is.label in
    λ i. first i ++ second i

rows_bare : (q : Part) (rows bare : List Row) → AreBareRows rows bare → flat_map (row_names q) bare ≡ []
rows_bare q [] [] are = refl
rows_bare q [] (b ∷ bare) are = absurd are
rows_bare q (r ∷ rows) [] are = absurd are
rows_bare q (r ∷ rows) (b ∷ bare) are =
    let here = row_bare q r b are.0 in
    let rest = rows_bare q rows bare are.1 in
    λ i. here i ++ rest i

no_names : (parts bare : List Part) → AreBareParts parts bare → all_names bare ≡ []
no_names [] [] are = refl
no_names [] (b ∷ bare) are = absurd are
no_names (p ∷ parts) [] are = absurd are
no_names (p ∷ parts) (b ∷ bare) are =
    let here : part_names b ≡ [] = rows_bare b p.rows.items b.rows.items (are.0).rows in
    let rest = no_names parts bare are.1 in
    λ i. here i ++ rest i

no_target : (ns : List (List ℕ × ℕ)) (i : Item) → IsNameless i → HasTarget ns i
no_target ns (item.Plain i) h = tt
no_target ns (item.Named i t) h = absurd h
no_target ns (item.Words ws) h = tt
no_target ns (item.Address number t) h = absurd h

row_targets : (ns : List (List ℕ × ℕ)) (rows bare : List Row) → AreBareRows rows bare → AllByRecursion (λ (r : Row). HasTarget ns r.item) bare
row_targets ns [] [] are = tt
row_targets ns [] (b ∷ bare) are = absurd are
row_targets ns (r ∷ rows) [] are = absurd are
row_targets ns (r ∷ rows) (b ∷ bare) are = (no_target ns b.item ((are.0).item).nameless, row_targets ns rows bare are.1)

part_targets : (ns : List (List ℕ × ℕ)) (parts bare : List Part) → AreBareParts parts bare → AllByRecursion (λ (p : Part). All (λ (r : Row). HasTarget ns r.item) p.rows.items) bare
part_targets ns [] [] are = tt
part_targets ns [] (b ∷ bare) are = absurd are
part_targets ns (p ∷ parts) [] are = absurd are
part_targets ns (p ∷ parts) (b ∷ bare) are =
    (All-from_recursion (λ (r : Row). HasTarget ns r.item) b.rows.items (row_targets ns p.rows.items b.rows.items (are.0).rows), part_targets ns parts bare are.1)

-- ---- where they run

none_holds : (o : Option ℕ) (P : ℕ → Type 0) → o ≡ None → IfSome o P
none_holds None P e = tt
none_holds (Some x) P e = absurd (cc)

apart_from : (b : Part) (others : List Part) → b.run ≡ None → AllByRecursion (RunApart b) others
apart_from b [] none = tt
apart_from b (q ∷ others) none =
    (none_holds b.run (λ run. IfSome q.run (λ other. (run + length (rows_words b.rows.items) ≤ other) ⊎ (other + length (rows_words q.rows.items) ≤ run))) none, apart_from b others none)

run_there : (parts bare : List Part) → AreBareParts parts bare → RunsFit bare
run_there [] [] are = tt
run_there [] (b ∷ bare) are = absurd are
run_there (p ∷ parts) [] are = absurd are
run_there (p ∷ parts) (b ∷ bare) are =
    let none = (are.0).run in
    (none_holds b.run (λ run. (0xFF00 ≤ run) × (run + length (rows_words b.rows.items) ≤ 0x10000)) none, apart_from b bare none, run_there parts bare are.1)

-- ---- all

as_many : (parts bare : List Part) → AreBareParts parts bare → length bare ≡ length parts
as_many [] [] are = refl
as_many [] (b ∷ bare) are = absurd are
as_many (p ∷ parts) [] are = absurd are
as_many (p ∷ parts) (b ∷ bare) are = let rest = as_many parts bare are.1 in omega (arith, rest)

pub bare_buildable : (image : finite.FinMap nat_cmp ℕ) (blank : ℕ) (parts bare : List Part) → IsWordMap image → ArePartsOf image blank parts → length parts ≤ 254 → AreBareParts parts bare → IsBuildable bare
bare_buildable image blank parts bare fits h few are =
    let none = no_names parts bare are in
    let size = ap (λ (ns : List (List ℕ × ℕ)). length ns) none in
    let many = as_many parts bare are in
    let names : AreNames [] bare = record { own = tt; apart = refl; targets = All-from_recursion (λ (p : Part). All (λ (r : Row). HasTarget [] r.item) p.rows.items) bare (part_targets [] parts bare are); runs = run_there parts bare are } in
    is_buildable image blank bare fits (same_image image blank parts bare are h) (omega (arith, many, few)) (omega (arith, size)) (subst (λ (ns : List (List ℕ × ℕ)). AreNames ns bare) (sym none) names)

module _ {E : Type 0} (image : finite.FinMap nat_cmp ℕ) (parts : List Part) where
  pub all_same : (r : Result (Vec Part Global) E) → IfOk r (λ made. AreBareParts parts made.items) → (blank : ℕ) → ArePartsOf image blank parts → IfOk r (λ made. ArePartsOf image blank made.items)
  all_same (Err e) bare blank are = tt
  all_same (Ok made) bare blank are = same_image image blank parts made.items bare are

  pub all_built : (r : Result (Vec Part Global) E) → IfOk r (λ made. AreBareParts parts made.items) → IsWordMap image → (blank : ℕ) → ArePartsOf image blank parts → length parts ≤ 254 → IfOk r (λ made. IsBuildable made.items)
  all_built (Err e) bare fits blank are few = tt
  all_built (Ok made) bare fits blank are few = bare_buildable image blank parts made.items fits are few bare
