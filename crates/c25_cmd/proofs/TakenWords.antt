-- The words of ranges.
use Rattle.std.proofs.Common.{◌≡◌, ℕ, ◌+◌, ◌*◌, ◌-◌, ◌<◌, ◌≤◌, Bool, true, false, ◌&&◌, ◌||◌, ltb, leb, List, [], ◌∷◌, ◌++◌, length, get_or, replicate, inl, inr, refl, sym, ap, ◌∙◌, max, arith}
use Rattle.std.specs.List.{list_any, All}
use Rattle.std.proofs.lemmas.Bool.{cases_lt}
use Rattle.std.proofs.lemmas.Bool.Decides.{nat_tests}
use Rattle.std.proofs.lemmas.List.{get_or-replicate, get_or_past, length-replicate}
use Rattle.std.proofs.lemmas.List.Elements.{All-nil, All-head, All-tail, All-push}
use Rattle.std.proofs.lemmas.List.Folds.{list_any-append}
use Rattle.c25_meaning_linking.specs.Command.{RangeData, IsRange}
use Rattle.c25_meaning_linking.specs.CommandMemory.{overlaps}
use Rattle.c25_cmd.specs.Known.{covers, KnowsWords}

-- ---- words that two ranges share

or_true : (b : Bool) → (b || true) ≡ true
or_true true = refl
or_true false = refl

-- a range that has a word of others overlaps with them
overlap : (page word origin size : ℕ) (r : RangeData) → origin ≤ word → word < origin + size → covers page word r ≡ true → overlaps page origin size r ≡ true
overlap page word origin size r low high h = grind (arith, nat_tests)

overlap_any : (page word origin size : ℕ) → origin ≤ word → word < origin + size → (rs : List RangeData) → list_any (covers page word) rs ≡ true
    → list_any (overlaps page origin size) rs ≡ true
overlap_any page word origin size low high [] h = absurd cc
overlap_any page word origin size low high (r ∷ rs) h = by_first (covers page word r) refl (overlap_any page word origin size low high rs) where
  by_first : (b : Bool) → b ≡ covers page word r → (list_any (covers page word) rs ≡ true → list_any (overlaps page origin size) rs ≡ true)
      → list_any (overlaps page origin size) (r ∷ rs) ≡ true
  by_first true e later = rw (overlap page word origin size r low high (sym e)) refl
  by_first false e later =
      let rest : list_any (covers page word) rs ≡ true = rw (sym e) at h in
      rw (later rest) (or_true (overlaps page origin size r))

-- a word of both
record Shared (page origin size : ℕ) (rs : List RangeData) : Type 0 where
  word : ℕ
  low : origin ≤ word
  high : word < origin + size
  covered : list_any (covers page word) rs ≡ true

covered_first : (page origin size : ℕ) (r : RangeData) → 0 < size → IsRange r → overlaps page origin size r ≡ true → covers page (max origin r.origin) r ≡ true
covered_first page origin size r some range h = grind (arith, nat_tests, range.words)

high_first : (page origin size : ℕ) (r : RangeData) → 0 < size → overlaps page origin size r ≡ true → max origin r.origin < origin + size
high_first page origin size r some h = grind (arith, nat_tests)

shared_any : (page origin size : ℕ) → 0 < size → (rs : List RangeData) → All IsRange rs → list_any (overlaps page origin size) rs ≡ true → Shared page origin size rs
shared_any page origin size some [] each h = absurd cc
shared_any page origin size some (r ∷ rs) each h = by_first (overlaps page origin size r) refl (shared_any page origin size some rs (All-tail IsRange r rs each)) where
  by_first : (b : Bool) → b ≡ overlaps page origin size r → (list_any (overlaps page origin size) rs ≡ true → Shared page origin size rs) → Shared page origin size (r ∷ rs)
  by_first true e later = record {
    word = max origin r.origin;
    low = omega arith;
    high = high_first page origin size r some (sym e);
    covered = rw (covered_first page origin size r some (All-head IsRange r rs each) (sym e)) refl;
  }
  by_first false e later =
      let rest : list_any (overlaps page origin size) rs ≡ true = rw (sym e) at h in
      let found = later rest in
      record {
        word = found.word;
        low = found.low;
        high = found.high;
        covered = rw found.covered (or_true (covers page found.word r));
      }

not_true : (b : Bool) → (b ≡ true → ⊥) → b ≡ false
not_true true h = absurd (h refl)
not_true false h = refl

-- what a search of the marked words finds is whether a range overlaps
pub found_if_overlap : (taken : List Bool) (rs : List RangeData) (page origin size : ℕ) (r : Bool) → KnowsWords taken rs → page ≤ 1 → 0 < size → origin + size ≤ 65536
    → (r ≡ true → (k : ℕ) × (page * 65536 + origin ≤ k) × (k < page * 65536 + origin + size) × (get_or taken k false ≡ true))
    → (r ≡ false → (k : ℕ) → page * 65536 + origin ≤ k → k < page * 65536 + origin + size → get_or taken k false ≡ false)
    → r ≡ list_any (overlaps page origin size) rs
found_if_overlap taken rs page origin size true knows low some within found none =
    let at = found refl in
    let k = at.0 in
    let word = k - page * 65536 in
    let k_is : page * 65536 + word ≡ k = omega (arith, at.1) in
    let marked : get_or taken (page * 65536 + word) false ≡ true = ap (λ (i : ℕ). get_or taken i false) k_is ∙ at.3 in
    let covered : list_any (covers page word) rs ≡ true = sym (knows.words page word low (omega (arith, at.1, at.2))) ∙ marked in
    sym (overlap_any page word origin size (omega (arith, at.1)) (omega (arith, at.1, at.2)) rs covered)
found_if_overlap taken rs page origin size false knows low some within found none =
    sym (not_true (list_any (overlaps page origin size) rs) (λ h.
    let shared = shared_any page origin size some rs knows.each h in
    let below : shared.word < 65536 = omega (arith, shared.high) in
    let free = none refl (page * 65536 + shared.word) (omega (arith, shared.low)) (omega (arith, shared.high)) in
    let marked = knows.words page shared.word low below ∙ shared.covered in
    absurd cc))

-- ---- a range more

-- whether a place among the words of both pages is one of the range's
same_word : (page word origin size : ℕ) (r : RangeData) (other : ℕ) → r.page ≡ page → r.origin ≡ origin → r.size ≡ size → page ≤ 1 → other ≤ 1 → word < 65536 → origin + size ≤ 65536
    → (leb (page * 65536 + origin) (other * 65536 + word) && ltb (other * 65536 + word) (page * 65536 + origin + size)) ≡ covers other word r
same_word page word origin size r other page_is origin_is size_is low other_low below within = grind (arith, nat_tests)

pub KnowsWords-push : (old new : List Bool) (rs : List RangeData) (page origin size : ℕ) (r : RangeData) → KnowsWords old rs → page ≤ 1 → 0 < size → origin + size ≤ 65536
    → length new ≡ length old
    → ((k : ℕ) → get_or new k false ≡ (get_or old k false || (leb (page * 65536 + origin) k && ltb k (page * 65536 + origin + size))))
    → r.page ≡ page → r.origin ≡ origin → r.size ≡ size → KnowsWords new (rs ++ r ∷ [])
KnowsWords-push old new rs page origin size r knows low some within sized marked page_is origin_is size_is = record {
  sized = sized ∙ knows.sized;
  words = λ other word other_low below.
      let here = same_word page word origin size r other page_is origin_is size_is low other_low below within in
      let pushed : list_any (covers other word) (rs ++ r ∷ []) ≡ (list_any (covers other word) rs || (covers other word r || false)) =
      list_any-append (covers other word) rs (r ∷ []) in
      marked (other * 65536 + word) ∙ rw (knows.words other word other_low below, here) (or_false (list_any (covers other word) rs) (covers other word r)) ∙ sym pushed;
  each = All-push IsRange rs r knows.each (record {
    page = omega (arith, page_is);
    words = omega (arith, size_is);
    within = omega (arith, origin_is, size_is);
  });
}
  where
    or_false : (a b : Bool) → (a || b) ≡ (a || (b || false))
    or_false true b = refl
    or_false false true = refl
    or_false false false = refl

-- ---- no ranges

all_free : (n k : ℕ) → get_or (replicate n false) k false ≡ false
all_free n k = elim (cases_lt k n) [ inl l ↦ get_or-replicate n k false false l | inr g ↦ get_or_past (replicate n false) k false (omega (arith, g, length-replicate n false)) ]

pub KnowsWords-none : (taken : List Bool) → taken ≡ replicate 131072 false → KnowsWords taken []
KnowsWords-none taken e = record {
  sized = ap length e ∙ length-replicate 131072 false;
  words = λ page word low below. ap (λ (t : List Bool). get_or t (page * 65536 + word) false) e ∙ all_free 131072 (page * 65536 + word);
  each = All-nil IsRange;
}
