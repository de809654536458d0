-- The ranges of a page and their names.
use Rattle.std.proofs.Common.{◌≡◌, ℕ, zero, suc, ◌+◌, ◌<◌, ◌&&◌, ◌||◌, Bool, true, false, cond, eqb, eqb-true, List, [], ◌∷◌, ◌++◌, length, get_or, take, drop, filter, Option, Some, None, is_some, unwrap_or, refl, sym, ap, subst, ◌∙◌, arith, All}
use Rattle.std.specs.List.{list_any}
use Rattle.std.specs.Str.{bytes_eq}
use Rattle.std.proofs.lemmas.List.Elements.{All-nil, All-cons, All-head, All-tail, All-filter}
use Rattle.c25_meaning_linking.specs.Command.{RangeData, AreApart, Pairwise}
use Rattle.c25_meaning_linking.specs.GoodMap.{is_named_on}
use Rattle.c25_meaning_linking.proofs.PlaceNames.{same_name, is_same}
use Rattle.c25_place.specs.Ranges.{on_page, place_from}
use Rattle.std.proofs.lemmas.List.{take-map, drop-map}
use Rattle.c25_place.specs.View.{range_view, ranges_view}
use Rattle.c25_place.specs.declared.ranges.PageRange.{PageRange}
use Rattle.c25_place.proofs.Sized.{turned}

-- ---- one range more

push_new : (name : List ℕ) (k : ℕ) (xs : List RangeData) (r : RangeData) → place_from name k xs ≡ None → bytes_eq name r.name ≡ true → place_from name k (xs ++ r ∷ []) ≡ Some (k + length xs)
push_new name k [] r none e = ap (λ b. cond b (Some k) None) e ∙ ap Some (let z : k ≡ k + 0 = omega arith in z)
push_new name k (x ∷ xs) r none e = by_test (push_new name (k + 1) xs r) (bytes_eq name x.name) none where
  by_test : (place_from name (k + 1) xs ≡ None → bytes_eq name r.name ≡ true → place_from name (k + 1) (xs ++ r ∷ []) ≡ Some ((k + 1) + length xs)) → (t : Bool) → cond t (Some k) (place_from name (k + 1) xs) ≡ None → cond t (Some k) (place_from name (k + 1) (xs ++ r ∷ [])) ≡ Some (k + length (x ∷ xs))
  by_test later true n = absurd cc
  by_test later false n = later n e ∙ ap Some (let z : (k + 1) + length xs ≡ k + length (x ∷ xs) = omega arith in z)

push_other : (name : List ℕ) (k : ℕ) (xs : List RangeData) (r : RangeData) → bytes_eq name r.name ≡ false → place_from name k (xs ++ r ∷ []) ≡ place_from name k xs
push_other name k [] r e = ap (λ b. cond b (Some k) None) e
push_other name k (x ∷ xs) r e = ap (cond (bytes_eq name x.name) (Some k)) (push_other name (k + 1) xs r e)

none_from : (name : List ℕ) (k : ℕ) (xs : List RangeData) → All (λ r. r.name ≡ name → ⊥) xs → place_from name k xs ≡ None
none_from name k [] all = refl
none_from name k (x ∷ xs) all = by_test (none_from name (k + 1) xs (All-tail (λ r. r.name ≡ name → ⊥) x xs all)) (bytes_eq name x.name) refl where
  by_test : place_from name (k + 1) xs ≡ None → (t : Bool) → bytes_eq name x.name ≡ t → cond t (Some k) (place_from name (k + 1) xs) ≡ None
  by_test later true e = absurd (All-head (λ (r : RangeData). r.name ≡ name → ⊥) x xs all (sym (same_name name x.name e)))
  by_test later false e = later

-- the step of a map from names to places
pub place_more : (name : List ℕ) (xs : List RangeData) (r : RangeData) (n : ℕ) → All (λ q. q.name ≡ r.name → ⊥) xs → n ≡ length xs → cond (bytes_eq r.name name) (Some n) (place_from name 0 xs) ≡ place_from name 0 (xs ++ r ∷ [])
place_more name xs r n all is = by_test (bytes_eq r.name name) refl where
  by_test : (t : Bool) → bytes_eq r.name name ≡ t → cond t (Some n) (place_from name 0 xs) ≡ place_from name 0 (xs ++ r ∷ [])
  by_test true e =
      let same : r.name ≡ name = same_name r.name name e in
      let none : place_from name 0 xs ≡ None = none_from name 0 xs (subst (λ m. All (λ (q : RangeData). q.name ≡ m → ⊥) xs) same all) in
      ap Some (let z : n ≡ 0 + length xs = omega (arith, is) in z) ∙ sym (push_new name 0 xs r none (ap (bytes_eq name) same ∙ is_same name))
  by_test false e = sym (push_other name 0 xs r (turned name r.name ∙ e))

-- ---- ranges of one page that are apart have different names

pairwise_before : {A : Type 0} (R : A → A → Type 0) (xs : List A) (i : ℕ) (x : A) → Pairwise R xs → i < length xs → x ≡ get_or xs i x → All (λ y. R y x) (take i xs)
pairwise_before R [] i x p lt is = absurd (omega arith)
pairwise_before R (y ∷ ys) zero x p lt is = All-nil (λ z. R z x)
pairwise_before R (y ∷ ys) (suc i) x p lt is =
    let below : i < length ys = omega arith in
    All-cons (λ z. R z x) y (take i ys) (subst (R y) (sym is) (p.0 i x below)) (pairwise_before R ys i x p.1 below is)

-- the page of each range that is kept
kept_page : (page : ℕ) (xs : List RangeData) → All (λ r. r.page ≡ page) (on_page page xs)
kept_page page [] = All-nil (λ r. r.page ≡ page)
kept_page page (x ∷ xs) = by_test (kept_page page xs) (eqb x.page page) refl where
  by_test : All (λ r. r.page ≡ page) (on_page page xs) → (t : Bool) → eqb x.page page ≡ t → All (λ r. r.page ≡ page) (cond t (x ∷ on_page page xs) (on_page page xs))
  by_test later true e = All-cons (λ r. r.page ≡ page) x (on_page page xs) (eqb-true x.page page e) later
  by_test later false e = later

differ_from : (page : ℕ) (r : RangeData) (xs : List RangeData) → r.page ≡ page → All (λ y. y.page ≡ page) xs → All (λ y. AreApart y r) xs → All (λ q. q.name ≡ r.name → ⊥) xs
differ_from page r xs same pages apart = λ k d lt. (apart k d lt).names (pages k d lt ∙ sym same)

pub names_before : (page : ℕ) (all : List RangeData) (i : ℕ) (r : RangeData) → Pairwise AreApart all → i < length all → r ≡ get_or all i r → r.page ≡ page → All (λ q. q.name ≡ r.name → ⊥) (on_page page (take i all))
names_before page all i r p lt is same =
    differ_from page r (on_page page (take i all)) same (kept_page page (take i all)) (All-filter (λ (x : RangeData). eqb x.page page) (λ y. AreApart y r) (take i all) (pairwise_before AreApart all i r p lt is))

-- ---- the range of a name

pairwise_kept : (page : ℕ) (xs : List RangeData) → Pairwise AreApart xs → Pairwise AreApart (on_page page xs)
pairwise_kept page [] p = tt
pairwise_kept page (x ∷ xs) p = by_test (pairwise_kept page xs p.1) (eqb x.page page) where
  by_test : Pairwise AreApart (on_page page xs) → (t : Bool) → Pairwise AreApart (cond t (x ∷ on_page page xs) (on_page page xs))
  by_test later true = (All-filter (λ (y : RangeData). eqb y.page page) (AreApart x) xs p.0, later)
  by_test later false = later

none_named : (name : List ℕ) (xs : List RangeData) → All (λ r. name ≡ r.name → ⊥) xs → filter (λ r. bytes_eq name r.name) xs ≡ []
none_named name [] all = refl
none_named name (x ∷ xs) all = by_test (none_named name xs (All-tail (λ r. name ≡ r.name → ⊥) x xs all)) (bytes_eq name x.name) refl where
  by_test : filter (λ r. bytes_eq name r.name) xs ≡ [] → (t : Bool) → bytes_eq name x.name ≡ t → cond t (x ∷ filter (λ r. bytes_eq name r.name) xs) (filter (λ r. bytes_eq name r.name) xs) ≡ []
  by_test later true e = absurd (All-head (λ (r : RangeData). name ≡ r.name → ⊥) x xs all (same_name name x.name e))
  by_test later false e = later

pub record OneNamed (name : List ℕ) (k j : ℕ) (xs : List RangeData) : Type 0 where
  pub at : ℕ
  pub place_is : j ≡ k + at
  pub below : at < length xs
  pub only : filter (λ r. bytes_eq name r.name) xs ≡ take 1 (drop at xs)

one_named : (page : ℕ) (name : List ℕ) (k j : ℕ) (xs : List RangeData) → Pairwise AreApart xs → All (λ r. r.page ≡ page) xs → place_from name k xs ≡ Some j → OneNamed name k j xs
one_named page name k j [] p pages h = absurd cc
one_named page name k j (x ∷ xs) p pages h =
    by_test (one_named page name (k + 1) j xs p.1 (All-tail (λ r. r.page ≡ page) x xs pages)) (bytes_eq name x.name) refl h
  where
    by_test : (place_from name (k + 1) xs ≡ Some j → OneNamed name (k + 1) j xs) → (t : Bool) → bytes_eq name x.name ≡ t → cond t (Some k) (place_from name (k + 1) xs) ≡ Some j → OneNamed name k j (x ∷ xs)
    by_test later true e g =
        let same : k ≡ j = cc in
        let others : All (λ (r : RangeData). name ≡ r.name → ⊥) xs = λ i d lt n.
        (p.0 i d lt).names (All-head (λ (r : RangeData). r.page ≡ page) x xs pages ∙ sym (All-tail (λ (r : RangeData). r.page ≡ page) x xs pages i d lt)) (sym (same_name name x.name e) ∙ n) in
        record {
          at = 0;
          place_is = omega (arith, same);
          below = omega arith;
          only = ap (λ b. cond b (x ∷ filter (λ (r : RangeData). bytes_eq name r.name) xs) (filter (λ (r : RangeData). bytes_eq name r.name) xs)) e ∙ ap (λ ys. x ∷ ys) (none_named name xs others);
        }
    by_test later false e g =
        let o = later g in
        record {
          at = suc o.at;
          place_is = omega (arith, o.place_is);
          below = omega (arith, o.below);
          only = ap (λ b. cond b (x ∷ filter (λ (r : RangeData). bytes_eq name r.name) xs) (filter (λ (r : RangeData). bytes_eq name r.name) xs)) e ∙ o.only;
        }

none_placed : (name : List ℕ) (k : ℕ) (xs : List RangeData) → place_from name k xs ≡ None → filter (λ r. bytes_eq name r.name) xs ≡ []
none_placed name k [] h = refl
none_placed name k (x ∷ xs) h = by_test (none_placed name (k + 1) xs) (bytes_eq name x.name) h where
  by_test : (place_from name (k + 1) xs ≡ None → filter (λ r. bytes_eq name r.name) xs ≡ []) → (t : Bool) → cond t (Some k) (place_from name (k + 1) xs) ≡ None → cond t (x ∷ filter (λ r. bytes_eq name r.name) xs) (filter (λ r. bytes_eq name r.name) xs) ≡ []
  by_test later true g = absurd cc
  by_test later false g = later g

pub named_on : (name : List ℕ) (page : ℕ) (all : List RangeData) → filter (is_named_on name page) all ≡ filter (λ r. bytes_eq name r.name) (on_page page all)
named_on name page [] = refl
named_on name page (x ∷ xs) = by_test (eqb x.page page) (named_on name page xs) where
  by_test : (t : Bool) → filter (is_named_on name page) xs ≡ filter (λ r. bytes_eq name r.name) (on_page page xs)
      → cond (t && bytes_eq name x.name) (x ∷ filter (is_named_on name page) xs) (filter (is_named_on name page) xs) ≡ filter (λ r. bytes_eq name r.name) (cond t (x ∷ on_page page xs) (on_page page xs))
  by_test true h = λ i. cond (bytes_eq name x.name) (x ∷ h i) (h i)
  by_test false h = h

-- the range of a name on a page, by its place
pub one_range : (page : ℕ) (name : List ℕ) (j : ℕ) (all : List RangeData) → Pairwise AreApart all → place_from name 0 (on_page page all) ≡ Some j → (j < length (on_page page all)) × (filter (is_named_on name page) all ≡ take 1 (drop j (on_page page all)))
one_range page name j all p h =
    let o = one_named page name 0 j (on_page page all) (pairwise_kept page all p) (kept_page page all) h in
    let same : o.at ≡ j = omega (arith, o.place_is) in
    (omega (arith, o.below), named_on name page all ∙ o.only ∙ ap (λ n. take 1 (drop n (on_page page all))) same)

pub no_range : (page : ℕ) (name : List ℕ) (all : List RangeData) → place_from name 0 (on_page page all) ≡ None → filter (is_named_on name page) all ≡ []
no_range page name all h = named_on name page all ∙ none_placed name 0 (on_page page all) h

-- whether a page has a range of a name
placed_some : (name : List ℕ) (k : ℕ) (xs : List RangeData) → is_some (place_from name k xs) ≡ list_any (λ r. bytes_eq name r.name) xs
placed_some name k [] = refl
placed_some name k (x ∷ xs) = by_test (bytes_eq name x.name) (placed_some name (k + 1) xs) where
  by_test : (t : Bool) → is_some (place_from name (k + 1) xs) ≡ list_any (λ r. bytes_eq name r.name) xs → is_some (cond t (Some k) (place_from name (k + 1) xs)) ≡ (t || list_any (λ r. bytes_eq name r.name) xs)
  by_test true h = refl
  by_test false h = h

any_named : (name : List ℕ) (page : ℕ) (xs : List RangeData) → list_any (λ r. bytes_eq name r.name) (on_page page xs) ≡ list_any (is_named_on name page) xs
any_named name page [] = refl
any_named name page (x ∷ xs) = by_test (eqb x.page page) (any_named name page xs) where
  by_test : (t : Bool) → list_any (λ r. bytes_eq name r.name) (on_page page xs) ≡ list_any (is_named_on name page) xs
      → list_any (λ r. bytes_eq name r.name) (cond t (x ∷ on_page page xs) (on_page page xs)) ≡ ((t && bytes_eq name x.name) || list_any (is_named_on name page) xs)
  by_test true h = ap (λ b. bytes_eq name x.name || b) h
  by_test false h = h

pub has_range : (name : List ℕ) (page : ℕ) (all : List RangeData) → is_some (place_from name 0 (on_page page all)) ≡ list_any (is_named_on name page) all
has_range name page all = placed_some name 0 (on_page page all) ∙ any_named name page all

-- the range at the place that a map from names has, or none after all
pub taken_range : (page : ℕ) (name : List ℕ) (all : List RangeData) (list kept : List PageRange) (n : ℕ) (found : Option ℕ) → n ≡ length list → Pairwise AreApart all → ranges_view list ≡ on_page page all → place_from name 0 (on_page page all) ≡ found
    → kept ≡ take 1 (drop (unwrap_or found n) list) → ranges_view kept ≡ filter (is_named_on name page) all
taken_range page name all list kept n (Some j) counted apart are e is =
    let o = one_range page name j all apart e in
    ap ranges_view is ∙ sym (take-map range_view 1 (drop j list)) ∙ ap (take 1) (sym (drop-map range_view j list)) ∙ ap (λ rs. take 1 (drop j rs)) are ∙ sym o.1
taken_range page name all list kept n None counted apart are e is = ap ranges_view (is ∙ ap (λ m. take 1 (drop m list)) counted) ∙ ap (λ rs. ranges_view (take 1 rs)) (drop_all list) ∙ sym (no_range page name all e)
  where
    drop_all : (xs : List PageRange) → drop (length xs) xs ≡ []
    drop_all [] = refl
    drop_all (x ∷ xs) = drop_all xs
