-- A line is passed in two parts.
use Rattle.std.proofs.Common.{ℕ, List, ◌≡◌, Result, Ok, Err, refl}
use Rattle.c25_meaning_assembly.specs.AssemblyLine.{Statement}
use Rattle.c25_meaning_assembly.specs.Sections.{Progress, allowed, label, pass}
use Rattle.c25_meaning_common.specs.Results.{◌>>=◌}
use Rattle.c25_meaning_language.specs.declared.statement.FaultKind.{FaultKind}
use Rattle.c25_phases.specs.Steps.{begun, carried_out}
use Rattle.c25_meaning_common.specs.declared.placed.FileLine.{FileLine}

-- a line is passed by what comes before its act, then by its act
pub in_two : (origin : FileLine (List ℕ)) (s : Statement) (p : Progress) → pass origin s p ≡ (begun s.label s.act p >>= λ q. carried_out origin s.act q)
unfolding pass
in_two origin s p = on (allowed s.act p)
  where
    on : (a : Result (Unit {0}) FaultKind) → (a >>= λ _. label s.label p >>= λ q. carried_out origin s.act q) ≡ ((a >>= λ _. label s.label p) >>= λ q. carried_out origin s.act q)
    on (Ok u) = refl
    on (Err e) = refl
