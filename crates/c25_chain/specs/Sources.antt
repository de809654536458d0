-- Failures of the assembler as failures of the chain.
use Rattle.c25_chain.specs.Modules.{asm_refusal}
use Rattle.c25_chain.specs.Refusal.{Fault, IsRefusedAs}
use Rattle.c25_meaning_common.specs.Results.{IsNoMemory}
use Rattle.c25_meaning_common.specs.declared.failure.Failure.{Failure}
use Rattle.c25_meaning_common.specs.declared.failure.Failure.TheVariants as failure
use Rattle.c25_phases.specs.View.{fault_of}
use Rattle.c25_phases.specs.declared.fault.AsmFault.{AsmFault}

-- a failure of the assembler as a failure of the chain: out of memory stays so, and a fault is the chain's,
-- unless memory runs out then
abbrev pub IsToldAs : Failure AsmFault → Fault → Type 0
IsToldAs (failure.NoMemory n) told = IsNoMemory told
IsToldAs (failure.Fault f) told = IsRefusedAs (asm_refusal (fault_of f)) told
