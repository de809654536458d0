-- Statements that ascend: a binary search finds in them what is first at an address.
use Rattle.std.proofs.Common.{◌≡◌, ◌∙◌, sym, ap, subst, refl, ℕ, zero, suc, ◌+◌, ◌<◌, ◌≤◌, ◌==◌, arith, Bool, true, false, cond, List, [], ◌∷◌, length, get_or, find, Option, None, Some, Ok, Err, nat_le, inl, inr}
use Rattle.std.specs.List.Sorted.{IsBinarySearchResult, IsNonDecreasingBy}
use Rattle.std.specs.Cmp.{ranks}
use Rattle.std.specs.Option.{option_map}
use Rattle.std.specs.Ordering.{MatchOrdering, nat_cmp, ordering_index}
use Rattle.std.specs.declared.cmp.Ordering.{Ordering}
use Rattle.std.specs.declared.cmp.Ordering.TheVariants.{Less, Equal, Greater}
use Rattle.std.proofs.lemmas.Bool.{and_parts, cases_lt, eq-eqb, eqb-true, leb-true}
use Rattle.std.proofs.lemmas.Bool.Decides.{nat_tests}
use Rattle.c25_pages.specs.Program.{statements_ascend_from}
use Rattle.c25_pages.specs.declared.program.PlainStatement.{PlainStatement}

-- ---- statements ascend

-- the first of ascending statements, and those after it
front : (low : ℕ) (s : PlainStatement) (ss : List PlainStatement) → statements_ascend_from low (s ∷ ss) ≡ true → (low ≤ s.address) × (statements_ascend_from (s.address + 1) ss ≡ true)
front low s ss e =
    let parts = and_parts (nat_le low s.address) (statements_ascend_from (s.address + 1) ss) e in
    (leb-true low s.address parts.0, parts.1)

above : (low : ℕ) (ss : List PlainStatement) (i : ℕ) (d : PlainStatement) → statements_ascend_from low ss ≡ true → i < length ss → low ≤ (get_or ss i d).address
above low [] i d h lt = absurd (omega arith)
above low (s ∷ ss) zero d h lt = (front low s ss h).0
above low (s ∷ ss) (suc i) d h lt =
    let f = front low s ss h in
    let next : s.address + 1 ≤ (get_or ss i d).address = above (s.address + 1) ss i d f.1 (omega arith) in
    let here = f.0 in
    omega (arith, here, next)

-- none stands at a later address than one after it
rise : (low : ℕ) (ss : List PlainStatement) (i j : ℕ) (d : PlainStatement) → statements_ascend_from low ss ≡ true → i ≤ j → j < length ss → (get_or ss i d).address ≤ (get_or ss j d).address
rise low [] i j d h le below = absurd (omega arith)
rise low (s ∷ ss) zero zero d h le below = omega arith
rise low (s ∷ ss) zero (suc j) d h le below =
    let next = above (s.address + 1) ss j d (front low s ss h).1 (omega arith) in
    omega (arith, next)
rise low (s ∷ ss) (suc i) zero d h le below = absurd (omega arith)
rise low (s ∷ ss) (suc i) (suc j) d h le below = rise (s.address + 1) ss i j d (front low s ss h).1 (omega arith) (omega arith)

-- ---- what is first at an address

less_test : (a b : ℕ) → a < b → (a == b) ≡ false
less_test a b less = grind (arith, nat_tests)

abbrev first_at : ℕ → List PlainStatement → Option PlainStatement
first_at address ss = find (λ (s : PlainStatement). s.address == address) ss

-- each is the first at its address
first_there : (low : ℕ) (ss : List PlainStatement) (i : ℕ) (d : PlainStatement) → statements_ascend_from low ss ≡ true → i < length ss → first_at (get_or ss i d).address ss ≡ Some (get_or ss i d)
first_there low [] i d h below = absurd (omega arith)
first_there low (s ∷ ss) zero d h below = ap (λ (b : Bool). cond b (Some s) (first_at s.address ss)) (eq-eqb s.address s.address refl)
first_there low (s ∷ ss) (suc i) d h below =
    let f = front low s ss h in
    let next : s.address + 1 ≤ (get_or ss i d).address = above (s.address + 1) ss i d f.1 (omega arith) in
    ap (λ (b : Bool). cond b (Some s) (first_at (get_or ss i d).address ss)) (less_test s.address (get_or ss i d).address (omega (arith, next)))
    ∙ first_there (s.address + 1) ss i d f.1 (omega arith)

-- where none is at an address, none is first there
none_there : (address : ℕ) (ss : List PlainStatement) → ((i : ℕ) (d : PlainStatement) → i < length ss → (get_or ss i d).address ≡ address → ⊥) → first_at address ss ≡ None
none_there address [] none = refl
none_there address (s ∷ ss) none = by_test (none_there address ss (λ i d below. none (suc i) d (omega arith))) (s.address == address) refl where
  by_test : first_at address ss ≡ None → (b : Bool) → (s.address == address) ≡ b → cond b (Some s) (first_at address ss) ≡ None
  by_test rest true same = absurd (none 0 s (omega arith) (eqb-true s.address address same))
  by_test rest false other = rest

-- ---- a search among them

-- how a statement stands to an address
abbrev pub order_to : ℕ → PlainStatement → Ordering
order_to address s = nat_cmp s.address address

means : (address : ℕ) (s : PlainStatement) (o : Ordering) → order_to address s ≡ o → MatchOrdering o (s.address < address) (s.address ≡ address) (address < s.address)
means address s o is = subst (λ (p : Ordering). MatchOrdering p (s.address < address) (s.address ≡ address) (address < s.address)) is (ranks s.address address)

higher : (a b x : ℕ) → a ≤ b → ordering_index (nat_cmp a x) ≤ ordering_index (nat_cmp b x)
higher a b x le = grind (arith, nat_tests)

pub statement_found : (ss : List PlainStatement) (address i : ℕ) (d : PlainStatement) → statements_ascend_from 0 ss ≡ true → i < length ss → IsBinarySearchResult (order_to address) ss (Ok i)
    → Some (get_or ss i d).insn ≡ option_map (λ (x : PlainStatement). x.insn) (find (λ (x : PlainStatement). x.address == address) ss)
statement_found ss address i d ascend below holds =
    let same : (get_or ss i d).address ≡ address = means address (get_or ss i d) Equal (holds d) in
    let there : first_at address ss ≡ Some (get_or ss i d) = subst (λ (n : ℕ). first_at n ss ≡ Some (get_or ss i d)) same (first_there 0 ss i d ascend below) in
    sym (ap (option_map (λ (x : PlainStatement). x.insn)) there)

pub statement_missing : (ss : List PlainStatement) (address i : ℕ) → statements_ascend_from 0 ss ≡ true → IsBinarySearchResult (order_to address) ss (Err i)
    → None ≡ option_map (λ (x : PlainStatement). x.insn) (find (λ (x : PlainStatement). x.address == address) ss)
statement_missing ss address i ascend parted = sym (ap (option_map (λ (x : PlainStatement). x.insn)) (none_there address ss none)) where
  rises : IsNonDecreasingBy (λ s. ordering_index (order_to address s)) ss
  rises = λ j k d le below. higher (get_or ss j d).address (get_or ss k d).address address (rise 0 ss j k d ascend le below)

  none : (k : ℕ) (d : PlainStatement) → k < length ss → (get_or ss k d).address ≡ address → ⊥
  none k d below same =
      elim (cases_lt k i) [
        | inl before ↦ let less : (get_or ss k d).address < address = means address (get_or ss k d) Less ((parted rises).0 k d (omega arith) before) in omega (arith, less, same)
        | inr behind ↦ let more : address < (get_or ss k d).address = means address (get_or ss k d) Greater ((parted rises).1 k d behind below) in omega (arith, more, same)
      ]
