-- Refusals: why no line is given, with the place of the line that is refused.
use Rattle.std.specs.Prelude.{ℕ}
use Rattle.c25_meaning_common.specs.declared.placed.FileLine.{FileLine}
use Rattle.c25_meaning_common.specs.declared.failure.Failure.{Failure}
use Rattle.c25_meaning_common.specs.declared.failure.Failure.TheVariants.{NoMemory, Fault}
use Rattle.c25_meaning_language.specs.declared.statement.FaultKind.{FaultKind}
use Rattle.c25_macro.specs.declared.expander_fault.ExpanderFault.{ExpanderFault}
use Rattle.c25_macro.specs.declared.expander_fault.ExpanderFault.TheVariants.{Faulty}

-- the refusal of the line at this place
abbrev pub at_place : FileLine ℕ → Failure FaultKind → Failure ExpanderFault
at_place place (NoMemory n) = NoMemory n
at_place place (Fault kind) = Fault (Faulty place kind)
