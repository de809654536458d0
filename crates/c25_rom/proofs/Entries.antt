-- The entries of a map from addresses, which ascend.
use Rattle.std.proofs.Common.{◌≡◌, ℕ, ◌<◌, ◌≤◌, Bool, true, false, ◌&&◌, T, cond, List, [], ◌∷◌, Option, Some, None, map, leb, refl, sym, ap, ◌∙◌, inl, inr, arith}
use Rattle.std.specs.Prelude.{find}
use Rattle.std.specs.Ordering.{nat_cmp, eq_by_cmp, is_lt}
use Rattle.std.specs.declared.cmp.Ordering.{Ordering}
use Rattle.std.specs.declared.cmp.Ordering.TheVariants.{Less, Equal, Greater}
use Rattle.std.specs.Cmp.{unsigned_tied, ranked}
use Rattle.std.specs.FinMap.Entries.{below_all, is_sorted}
use Rattle.std.specs.FinMap.Entries as entries
use Rattle.std.proofs.lemmas.Bool.{ne_eqb, eq-eqb}
use Rattle.std.proofs.lemmas.Bool.Decides.{eqb_tells, leb_tells}

abbrev pub addresses : List (ℕ × ℕ) → List ℕ
addresses es = map (λ e. e.0) es

-- the first of some addresses that is a size or beyond
abbrev pub past : ℕ → List (ℕ × ℕ) → Option ℕ
past size es = find (λ address. leb size address) (addresses es)

pub first : (a b : Bool) → T (a && b) → T a
first true b h = tt
first false b h = absurd h

pub second : (a b : Bool) → T (a && b) → T b
second true b h = h
second false b h = absurd h

by_order : (x y : ℕ) (o : Ordering) → o ≡ nat_cmp x y → T (is_lt o) → x < y
by_order x y Less e h = ranked x y Less e
by_order x y Equal e h = absurd h
by_order x y Greater e h = absurd h

-- an address below all of the others is none of them
pub below_none : (k : ℕ) (es : List (ℕ × ℕ)) → T (below_all nat_cmp k es) → entries.find nat_cmp k es ≡ None
below_none k [] below = refl
below_none k (e ∷ es) below =
    let less = by_order k e.0 (nat_cmp k e.0) refl (first (is_lt (nat_cmp k e.0)) (below_all nat_cmp k es) below) in
    let apart : eq_by_cmp nat_cmp k e.0 ≡ false = unsigned_tied k e.0 ∙ ne_eqb k e.0 (λ (same : k ≡ e.0). omega arith) in
    rw apart (below_none k es (second (is_lt (nat_cmp k e.0)) (below_all nat_cmp k es) below))

pub found_first : (e : ℕ × ℕ) (es : List (ℕ × ℕ)) → entries.find nat_cmp e.0 (e ∷ es) ≡ Some e.1
found_first e es =
    let same : eq_by_cmp nat_cmp e.0 e.0 ≡ true = unsigned_tied e.0 e.0 ∙ eq-eqb e.0 e.0 refl in
    rw same refl

-- where no address is a size or beyond, the first is not, and none of the others is
pub past_none : (size : ℕ) (e : ℕ × ℕ) (es : List (ℕ × ℕ)) → past size (e ∷ es) ≡ None → (e.0 < size) × (past size es ≡ None)
past_none size e es none = elim (leb_tells size e.0) [
  | inl h ↦ absurd (let some : Some e.0 ≡ None = sym (ap (λ (b : Bool). cond b (Some e.0) (past size es)) h.0) ∙ none in cc some)
  | inr h ↦ (h.1, sym (ap (λ (b : Bool). cond b (Some e.0) (past size es)) h.0) ∙ none)
]

-- where no address is a size or beyond, each one that is found is not
pub found_within : (size : ℕ) (es : List (ℕ × ℕ)) (a w : ℕ) → past size es ≡ None → entries.find nat_cmp a es ≡ Some w → a < size
found_within size [] a w none is = cc is
found_within size (e ∷ es) a w none is = let both = past_none size e es none in elim (eqb_tells a e.0) [
  | inl h ↦ (let same : a ≡ e.0 = h.1 in let below : e.0 < size = both.0 in omega arith)
  | inr h ↦
      (let apart : eq_by_cmp nat_cmp a e.0 ≡ false = unsigned_tied a e.0 ∙ h.0 in
      found_within size es a w both.1 (rw apart at is))
]

-- the first address that is a size or beyond is one of a word
pub past_found : (size : ℕ) (es : List (ℕ × ℕ)) (a : ℕ) → past size es ≡ Some a → (size ≤ a) × ((w : ℕ) × (entries.find nat_cmp a es ≡ Some w))
past_found size [] a is = cc is
past_found size (e ∷ es) a is = elim (leb_tells size e.0) [
  | inl h ↦
      (let here : Some e.0 ≡ Some a = sym (ap (λ (b : Bool). cond b (Some e.0) (past size es)) h.0) ∙ is in
      let same : e.0 ≡ a = cc here in
      let far : size ≤ e.0 = h.1 in (omega arith, (e.1, ap (λ (k : ℕ). entries.find nat_cmp k (e ∷ es)) (sym same) ∙ found_first e es)))
  | inr h ↦ one_more e es a (past_found size es a (sym (ap (λ (b : Bool). cond b (Some e.0) (past size es)) h.0) ∙ is))
] where
  one_more : (e : ℕ × ℕ) (es : List (ℕ × ℕ)) (a : ℕ) → (size ≤ a) × ((w : ℕ) × (entries.find nat_cmp a es ≡ Some w)) → (size ≤ a) × ((w : ℕ) × (entries.find nat_cmp a (e ∷ es) ≡ Some w))
  one_more e es a found = elim (eqb_tells a e.0) [
    | inl h ↦ (found.0, (e.1, ap (λ (k : ℕ). entries.find nat_cmp k (e ∷ es)) h.1 ∙ found_first e es))
    | inr h ↦
        (let apart : eq_by_cmp nat_cmp a e.0 ≡ false = unsigned_tied a e.0 ∙ h.0 in (found.0, (found.1.0, rw apart found.1.1)))
  ]
