-- The fault of a line as the fault of a source.
use denote.Ref.{Bor}
use Rattle.std.specs.Prelude.{ℕ, List}
use Rattle.c25_meaning_common.specs.declared.failure.Failure.{Failure}
use Rattle.c25_meaning_common.specs.declared.failure.Failure.TheVariants.{NoMemory, Fault}
use Rattle.c25_meaning_common.specs.declared.placed.FileLine.{FileLine}
use Rattle.c25_meaning_language.specs.declared.statement.FaultKind.{FaultKind}
use Rattle.c25_phases.specs.declared.fault.AsmFault.{AsmFault}
use Rattle.c25_phases.specs.declared.fault.AsmFault.TheVariants.{Line}

-- the failure of a line as the failure of its source
abbrev pub at_origin : FileLine (Bor (List ℕ)) → Failure FaultKind → Failure AsmFault
at_origin o (NoMemory n) = NoMemory n
at_origin o (Fault kind) = Fault (Line (record { place = o; fault = kind }))
