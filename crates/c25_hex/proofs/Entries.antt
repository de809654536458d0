-- Entries in the order of their keys.
use Rattle.std.proofs.Common.{◌≡◌, ℕ, ◌+◌, ◌<◌, ◌≤◌, Bool, true, false, ◌&&◌, T, List, [], ◌∷◌, Some, None, refl, sym, ap, ◌∙◌, arith, inl, inr}
use Rattle.std.specs.Ordering.{nat_cmp, eq_by_cmp, is_lt}
use Rattle.std.specs.declared.cmp.Ordering.{Ordering}
use Rattle.std.specs.declared.cmp.Ordering.TheVariants.{Less, Equal, Greater}
use Rattle.std.specs.Cmp.{unsigned_tied, ranked}
use Rattle.std.specs.FinMap.Entries.{find, below_all, is_sorted}
use Rattle.std.proofs.lemmas.Bool.{ne_eqb, eq-eqb, cases_lt, or_left, or_right, or_from}
use Rattle.std.proofs.lemmas.Bool.Decides.{eqb_tells}
use Rattle.std.specs.List.{list_any}

pub first : (a b : Bool) → T (a && b) → T a
first true b h = tt
first false b h = absurd h

pub second : (a b : Bool) → T (a && b) → T b
second true b h = h
second false b h = absurd h

by_order : (x y : ℕ) (o : Ordering) → o ≡ nat_cmp x y → T (is_lt o) → x < y
by_order x y Less e h = ranked x y Less e
by_order x y Equal e h = absurd h
by_order x y Greater e h = absurd h

-- all addresses are at a number or above it
abbrev pub AllFrom : ℕ → List (ℕ × ℕ) → Type 0
AllFrom n [] = Unit {0}
AllFrom n (e ∷ es) = (n ≤ e.0) × AllFrom n es

pub all_above : (k : ℕ) (es : List (ℕ × ℕ)) → T (below_all nat_cmp k es) → AllFrom (k + 1) es
all_above k [] h = tt
all_above k (e ∷ es) h = (
  let lt = by_order k e.0 (nat_cmp k e.0) refl (first (is_lt (nat_cmp k e.0)) (below_all nat_cmp k es) h) in omega arith,
  all_above k es (second (is_lt (nat_cmp k e.0)) (below_all nat_cmp k es) h),
)

find_under : (n q : ℕ) (es : List (ℕ × ℕ)) → AllFrom n es → q < n → find nat_cmp q es ≡ None
find_under n q [] h lt = refl
find_under n q (e ∷ es) h lt =
    let h0 : n ≤ e.0 = h.0 in
    let apart : eq_by_cmp nat_cmp q e.0 ≡ false = unsigned_tied q e.0 ∙ ne_eqb q e.0 (λ (same : q ≡ e.0). omega arith) in
    rw apart (find_under n q es h.1 lt)

pub found_behind : (e : ℕ × ℕ) (es : List (ℕ × ℕ)) (q w : ℕ) → AllFrom (e.0 + 1) es → find nat_cmp q es ≡ Some w → find nat_cmp q (e ∷ es) ≡ Some w
found_behind e es q w above is = elim (cases_lt q (e.0 + 1)) [
  | inl lt ↦ (let gone = find_under (e.0 + 1) q es above lt in cc (gone, is))
  | inr le ↦
      (let apart : eq_by_cmp nat_cmp q e.0 ≡ false = unsigned_tied q e.0 ∙ ne_eqb q e.0 (λ (same : q ≡ e.0). omega arith) in
      rw apart is)
]

pub found_first : (e : ℕ × ℕ) (es : List (ℕ × ℕ)) → find nat_cmp e.0 (e ∷ es) ≡ Some e.1
found_first e es =
    let same : eq_by_cmp nat_cmp e.0 e.0 ≡ true = unsigned_tied e.0 e.0 ∙ eq-eqb e.0 e.0 refl in
    rw same refl

-- a test that a key passes
pub any_entry : (P : ℕ → Bool) (es : List (ℕ × ℕ)) (q w : ℕ) → find nat_cmp q es ≡ Some w → P q ≡ true → list_any (λ e. P e.0) es ≡ true
any_entry P [] q w is passes = cc is
any_entry P (e ∷ es) q w is passes = elim (eqb_tells q e.0) [
  | inl h ↦ or_left (P e.0) (list_any (λ f. P f.0) es) (ap (λ (k : ℕ). P k) (sym h.1) ∙ passes)
  | inr h ↦
      (let apart : eq_by_cmp nat_cmp q e.0 ≡ false = unsigned_tied q e.0 ∙ h.0 in
      or_right (P e.0) (list_any (λ f. P f.0) es) (any_entry P es q w (rw apart at is) passes))
]

-- a test that no key passes
pub no_entry : (P : ℕ → Bool) (es : List (ℕ × ℕ)) → T (is_sorted nat_cmp es) → ((q w : ℕ) → find nat_cmp q es ≡ Some w → P q ≡ false) → list_any (λ e. P e.0) es ≡ false
no_entry P [] sorted none = refl
no_entry P (e ∷ es) sorted none =
    let above = all_above e.0 es (first (below_all nat_cmp e.0 es) (is_sorted nat_cmp es) sorted) in
    or_from (P e.0) (list_any (λ f. P f.0) es) (none e.0 e.1 (found_first e es))
    (no_entry P es (second (below_all nat_cmp e.0 es) (is_sorted nat_cmp es) sorted) (λ q w is. none q w (found_behind e es q w above is)))
