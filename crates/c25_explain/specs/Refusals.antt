-- Faults of the chain without their places.
use Rattle.std.specs.Prelude.{String}
use Rattle.std.specs.declared.alloc.Global.{Global}
use Rattle.c25_chain.specs.Refusal.{Fault}
use Rattle.c25_chain.specs.declared.fault.ChainFault.{ChainFault}
use Rattle.c25_chain.specs.declared.fault.ChainFault.TheVariants as refusal
use Rattle.c25_meaning_common.specs.declared.failure.Failure.TheVariants as failure
use Rattle.c25_meaning_language.specs.declared.statement.FaultKind.TheVariants.{NoFile}
use Rattle.c25_explain.specs.declared.fault.AnyFault.{AnyFault}
use Rattle.c25_explain.specs.declared.fault.AnyFault.TheVariants.{Memory, Source, Object, Command, Link, Hex, Schedule, Samples, Script, File}

-- a fault of the chain without its place
abbrev pub of_refusal : ChainFault (String Global) → AnyFault
of_refusal (refusal.Source placed) = Source placed.fault
of_refusal (refusal.NoFile file line name) = Source NoFile
of_refusal (refusal.Object placed) = Object placed.fault
of_refusal (refusal.Command placed) = Command placed.fault
of_refusal (refusal.Link placed) = Link placed.fault
of_refusal (refusal.Hex placed) = Hex placed.fault
of_refusal (refusal.Schedule line) = Schedule
of_refusal (refusal.Samples line) = Samples
of_refusal (refusal.Script line) = Script
of_refusal (refusal.File placed) = File placed.fault

-- a failure of the chain without its place
abbrev pub of_fault : Fault → AnyFault
of_fault (failure.NoMemory n) = Memory
of_fault (failure.Fault refusal) = of_refusal refusal
