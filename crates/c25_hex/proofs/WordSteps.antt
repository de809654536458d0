-- One address more.
use Rattle.std.proofs.Common.{◌≡◌, ℕ, ◌+◌, ◌*◌, ◌≤◌, Bool, false, cond, ltb, eqb, List, length, get_or, Option, Some, None, sym, ap, ◌∙◌, arith, inl, inr}
use Rattle.std.specs.Ordering.{nat_cmp}
use Rattle.std.specs.Cmp.{nat_cmp_total, unsigned_tied}
use Rattle.std.specs.FinMap as map
use Rattle.std.specs.FinMap.{get-insert, get-empty}
use Rattle.std.proofs.lemmas.Bool.{cases_lt, lt-ltb, le-ltb, eqb-false}
use Rattle.std.proofs.lemmas.Bool.Decides.{eqb_tells}
use Rattle.std.proofs.lemmas.List.{get_or_past}
use Rattle.c25_hex.specs.Hex.{word_of, HasWordsOf}
use Rattle.c25_hex.specs.Cells.{cells_map}
use Rattle.c25_hex.proofs.CellMaps.{get-cells}
use Rattle.c25_hex.specs.Words.{HasWordsBelow}

abbrev word : List (Option ℕ) → ℕ → Option ℕ
word bytes a = word_of (get_or bytes (2 * a) None) (get_or bytes (2 * a + 1) None)

next_above : (a n : ℕ) → n ≤ a → (a ≡ n → ⊥) → n + 1 ≤ a
next_above a n le other = omega arith

below_same : (bytes : List (Option ℕ)) (n a : ℕ) → eqb a n ≡ false → cond (ltb a n) (word bytes a) None ≡ cond (ltb a (n + 1)) (word bytes a) None
below_same bytes n a other =
    elim (cases_lt a n) [
      | inl lt ↦ ap (λ (b : Bool). cond b (word bytes a) None) (lt-ltb a n lt ∙ sym (lt-ltb a (n + 1) (omega arith)))
      | inr le ↦ ap (λ (b : Bool). cond b (word bytes a) None) (le-ltb a n le ∙ sym (le-ltb a (n + 1) (next_above a n le (eqb-false a n other))))
    ]

at_end : (bytes : List (Option ℕ)) (a n : ℕ) → a ≡ n → cond (ltb a (n + 1)) (word bytes a) None ≡ word bytes n
at_end bytes a n e = ap (λ (b : Bool). cond b (word bytes a) None) (lt-ltb a (n + 1) (omega arith)) ∙ ap (λ (k : ℕ). word bytes k) e

pub none_below : (bytes : List (Option ℕ)) → HasWordsBelow 0 bytes map.empty
none_below bytes a = get-empty nat_cmp a ∙ sym (ap (λ (b : Bool). cond b (word bytes a) None) (le-ltb a 0 (omega arith)))

pub one_below : (bytes : List (Option ℕ)) (m : map.FinMap nat_cmp ℕ) (n w : ℕ) → word bytes n ≡ Some w → HasWordsBelow n bytes m → HasWordsBelow (n + 1) bytes (map.insert m n w)
one_below bytes m n w is below a =
    get-insert nat_cmp_total m n w a ∙ ap (λ (b : Bool). cond b (Some w) (map.get m a)) (unsigned_tied a n) ∙ elim (eqb_tells a n) [
      | inl h ↦ ap (λ (b : Bool). cond b (Some w) (map.get m a)) h.0 ∙ sym (at_end bytes a n h.1 ∙ is)
      | inr h ↦ ap (λ (b : Bool). cond b (Some w) (map.get m a)) h.0 ∙ below a ∙ below_same bytes n a h.0
    ]

pub gap_below : (bytes : List (Option ℕ)) (m : map.FinMap nat_cmp ℕ) (n : ℕ) → word bytes n ≡ None → HasWordsBelow n bytes m → HasWordsBelow (n + 1) bytes m
gap_below bytes m n is below a = below a ∙ elim (eqb_tells a n) [
  | inl h ↦ ap (λ (b : Bool). cond b (word bytes a) None) (le-ltb a n (omega (arith, h.1))) ∙ sym (at_end bytes a n h.1 ∙ is)
  | inr h ↦ below_same bytes n a h.0
]

in_cells : (bytes : List (Option ℕ)) (m : map.FinMap nat_cmp ℕ) (n a : ℕ) → length bytes ≤ 2 * n → HasWordsBelow n bytes m → map.get m a ≡ word bytes a
in_cells bytes m n a short below =
    elim (cases_lt a n) [
      | inl lt ↦ below a ∙ ap (λ (b : Bool). cond b (word bytes a) None) (lt-ltb a n lt)
      | inr le ↦ below a ∙ ap (λ (b : Bool). cond b (word bytes a) None) (le-ltb a n le) ∙ sym (ap (λ (o : Option ℕ). word_of o (get_or bytes (2 * a + 1) None)) (get_or_past bytes (2 * a) None (omega arith)))
    ]

pub all_below : (bytes : List (Option ℕ)) (m : map.FinMap nat_cmp ℕ) (n : ℕ) → length bytes ≤ 2 * n → HasWordsBelow n bytes m → HasWordsOf (cells_map bytes) m
all_below bytes m n short below a =
    in_cells bytes m n a short below ∙ ap (λ (o : Option ℕ). word_of o (get_or bytes (2 * a + 1) None)) (sym (get-cells bytes (2 * a)))
    ∙ ap (λ (o : Option ℕ). word_of (map.get (cells_map bytes) (2 * a)) o) (sym (get-cells bytes (2 * a + 1)))
