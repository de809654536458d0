-- The operand that is found for its value is one of the line's.
use Rattle.std.proofs.Common.{◌≡◌, ℕ, ◌+◌, Bool, true, false, cond, List, [], ◌∷◌, Some, subst}
use Rattle.c25_meaning_language.specs.Line.{Piece}
use Rattle.c25_meaning_language.specs.Value.{Table}
use Rattle.c25_meaning_language.specs.declared.statement.FaultKind.{FaultKind}
use Rattle.c25_places.specs.Refused.{AreWithin}
use Rattle.c25_places.specs.Values.{Found, first_found, has_value, is_fault, operand_serves, role_of}
use Rattle.c25_places.specs.declared.values.LineValues.{LineValues}
use Rattle.c25_places.proofs.Pieces.{AllWithin}

pub value_within : (n : ℕ) (kind : FaultKind) (table : Table) (l : LineValues) (k j : ℕ) (os : List (List Piece)) (f : Found) → AllWithin 0 n os → first_found kind table l k j os ≡ Some f → AreWithin 0 n f.operand
unfolding first_found
value_within n kind table l k j [] f h e = absurd (cc)
value_within n kind table l k j (o ∷ os) f h e =
    by (has_value l.operation k o) (is_fault kind (operand_serves table (role_of l.purpose j) o)) (value_within n kind table l (k + 1) (j + 1) os f h.1) (value_within n kind table l (k + 1) j os f h.1) e
  where
    by : (a b : Bool) → (first_found kind table l (k + 1) (j + 1) os ≡ Some f → AreWithin 0 n f.operand) → (first_found kind table l (k + 1) j os ≡ Some f → AreWithin 0 n f.operand)
        → cond a (cond b (Some (let q : Found = record { index = k; role = role_of l.purpose j; operand = o } in q)) (first_found kind table l (k + 1) (j + 1) os)) (first_found kind table l (k + 1) j os) ≡ Some f → AreWithin 0 n f.operand
    by true true more other e = let same : (let q : Found = record { index = k; role = role_of l.purpose j; operand = o } in q) ≡ f = cc in subst (λ (q : Found). AreWithin 0 n q.operand) same h.0
    by true false more other e = more e
    by false true more other e = other e
    by false false more other e = other e
