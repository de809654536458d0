-- The ranges of a page, one by one.
use Rattle.std.proofs.Common.{◌≡◌, ℕ, ◌+◌, ◌<◌, Bool, true, false, cond, eqb, List, [], ◌∷◌, ◌++◌, length, get_or, take, Option, Some, sym, ap, subst, ◌∙◌, arith, All}
use Rattle.std.specs.Str.{bytes_eq}
use Rattle.std.proofs.lemmas.Bool.Decides.{nat_tests}
use Rattle.std.proofs.lemmas.List.{append-nil, map-append, take-map, length-map, get_or-map, length-append}
use Rattle.std.proofs.lemmas.List.Elements.{filter-append}
use Rattle.c25_meaning_linking.specs.Command.{RangeData, AreApart, Pairwise}
use Rattle.c25_place.specs.Ranges.{on_page, place_in}
use Rattle.c25_place.specs.View.{range_view, ranges_view}
use Rattle.c25_place.specs.declared.ranges.PageRange.{PageRange}
use Rattle.c25_place.proofs.Listed.{mapped_more}
use Rattle.c25_place.proofs.Ranged.{place_more, names_before}

is_page : (n page : ℕ) → n ≡ page → eqb n page ≡ true
is_page n page is = grind (arith, nat_tests)

is_other : (n page : ℕ) → (n ≡ page → ⊥) → eqb n page ≡ false
is_other n page differ = grind (arith, nat_tests)

-- one range more
on_page_more : (page : ℕ) (ranges : List PageRange) (i : ℕ) (d : PageRange) (t : Bool) → i < length ranges → eqb (get_or ranges i d).page page ≡ t
    → on_page page (ranges_view (take (i + 1) ranges)) ≡ on_page page (ranges_view (take i ranges)) ++ cond t (range_view (get_or ranges i d) ∷ []) []
on_page_more page ranges i d t lt e =
    ap (on_page page) (mapped_more range_view ranges i d lt) ∙ filter-append (λ (r : RangeData). eqb r.page page) (ranges_view (take i ranges)) (range_view (get_or ranges i d) ∷ [])
    ∙ ap (λ b. on_page page (ranges_view (take i ranges)) ++ cond b (range_view (get_or ranges i d) ∷ []) []) e

pub kept_more : (page : ℕ) (ranges : List PageRange) (i : ℕ) (d : PageRange) → i < length ranges → (get_or ranges i d).page ≡ page
    → on_page page (ranges_view (take (i + 1) ranges)) ≡ on_page page (ranges_view (take i ranges)) ++ range_view (get_or ranges i d) ∷ []
kept_more page ranges i d lt is = on_page_more page ranges i d true lt (is_page (get_or ranges i d).page page is)

pub kept_same : (page : ℕ) (ranges : List PageRange) (i : ℕ) (d : PageRange) → i < length ranges → ((get_or ranges i d).page ≡ page → ⊥)
    → on_page page (ranges_view (take i ranges)) ≡ on_page page (ranges_view (take (i + 1) ranges))
kept_same page ranges i d lt differ = sym (on_page_more page ranges i d false lt (is_other (get_or ranges i d).page page differ) ∙ append-nil (on_page page (ranges_view (take i ranges))))

pub list_next : (page : ℕ) (ranges old new : List PageRange) (i : ℕ) (d : PageRange) → i < length ranges → (get_or ranges i d).page ≡ page → ranges_view old ≡ on_page page (ranges_view (take i ranges)) → new ≡ old ++ get_or ranges i d ∷ []
    → ranges_view new ≡ on_page page (ranges_view (take (i + 1) ranges))
list_next page ranges old new i d lt is before e =
    ap ranges_view e ∙ map-append range_view old (get_or ranges i d ∷ []) ∙ ap (λ rs. rs ++ range_view (get_or ranges i d) ∷ []) before ∙ sym (kept_more page ranges i d lt is)

mapped_take : (ranges : List PageRange) (i : ℕ) → ranges_view (take i ranges) ≡ take i (ranges_view ranges)
mapped_take ranges i = sym (take-map range_view i ranges)

-- where a name stands, with one range more
pub found_next : (page : ℕ) (ranges : List PageRange) (i n : ℕ) (d : PageRange) (name : List ℕ) (old : Option ℕ) → old ≡ place_in name (on_page page (ranges_view (take i ranges))) → Pairwise AreApart (ranges_view ranges) → i < length ranges → (get_or ranges i d).page ≡ page → n ≡ length (on_page page (ranges_view (take i ranges)))
    → cond (bytes_eq (get_or ranges i d).name.now name) (Some n) old ≡ place_in name (on_page page (ranges_view (take (i + 1) ranges)))
found_next page ranges i n d name old before apart lt is counted =
    ap (cond (bytes_eq (get_or ranges i d).name.now name) (Some n)) before ∙ place_more name (on_page page (ranges_view (take i ranges))) (range_view (get_or ranges i d)) n names counted ∙ ap (place_in name) (sym (kept_more page ranges i d lt is))
  where
    r : RangeData
    r = range_view (get_or ranges i d)

    within : i < length (ranges_view ranges)
    within = subst (λ m. i < m) (sym (length-map ranges range_view)) lt

    same : r ≡ get_or (ranges_view ranges) i r
    same = sym (get_or-map range_view ranges i d r lt)

    names : All (λ (q : RangeData). q.name ≡ r.name → ⊥) (on_page page (ranges_view (take i ranges)))
    names = subst (λ xs. All (λ (q : RangeData). q.name ≡ r.name → ⊥) (on_page page xs)) (sym (mapped_take ranges i)) (names_before page (ranges_view ranges) i r apart within same is)

-- how many there are
pub counted : (page : ℕ) (ranges list : List PageRange) (i n : ℕ) → n ≡ length list → ranges_view list ≡ on_page page (ranges_view (take i ranges)) → n ≡ length (on_page page (ranges_view (take i ranges)))
counted page ranges list i n is are = is ∙ sym (length-map list range_view) ∙ ap length are

-- one longer
pub one_longer : (old new : List PageRange) (r : PageRange) (n m : ℕ) → n ≡ length old → m ≡ n + 1 → new ≡ old ++ r ∷ [] → m ≡ length new
one_longer old new r n m is more e = let longer : length new ≡ length old + 1 = ap length e ∙ length-append old (r ∷ []) in omega (arith, longer, is, more)
