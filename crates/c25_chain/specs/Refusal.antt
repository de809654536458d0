-- Faults of the chain by the bytes of their names.
use Rattle.std.specs.Prelude.{◌≡◌, ℕ, List, String}
use Rattle.std.specs.String.{string_bytes}
use Rattle.std.specs.declared.alloc.Global.{Global}
use Rattle.c25_meaning_common.specs.declared.placed.Placed.{Placed}
use Rattle.c25_disk.specs.declared.fault.FileFault.{FileFault}
use Rattle.c25_meaning_common.specs.declared.failure.Failure.{Failure}
use Rattle.c25_meaning_common.specs.declared.failure.Failure.TheVariants as failure
use Rattle.c25_place.specs.View as place
use Rattle.c25_chain.specs.declared.fault.ChainFault.{ChainFault}
use Rattle.c25_chain.specs.declared.fault.ChainFault.TheVariants.{Source, NoFile, Object, Command, Link, Hex, Schedule, Samples, Script, File}

-- what the calls of the chain fail with: a fault or out of memory
abbrev pub Fault : Type 0
Fault = Failure (ChainFault (String Global))

-- a fault of a file, by the bytes of its name
abbrev pub file_fault_of : Placed (String Global) FileFault → Placed (List ℕ) FileFault
file_fault_of f = record { place = string_bytes f.place; fault = f.fault }

-- a fault of the chain, by the bytes of its names
abbrev pub refusal_of : ChainFault (String Global) → ChainFault (List ℕ)
refusal_of (Source f) = Source (record { place = record { file = string_bytes f.place.file; line = f.place.line }; fault = f.fault })
refusal_of (NoFile file line name) = NoFile (string_bytes file) line (string_bytes name)
refusal_of (Object f) = Object (record { place = string_bytes f.place; fault = f.fault })
refusal_of (Command faulty) = Command faulty
refusal_of (Link faulty) = Link (place.refusal_of faulty)
refusal_of (Hex placed) = Hex placed
refusal_of (Schedule line) = Schedule line
refusal_of (Samples line) = Samples line
refusal_of (Script line) = Script line
refusal_of (File f) = File (file_fault_of f)

-- a failure is this fault, unless memory ran out
abbrev pub IsRefusedAs : ChainFault (List ℕ) → Fault → Type 0
IsRefusedAs r (failure.NoMemory n) = Unit {0}
IsRefusedAs r (failure.Fault f) = refusal_of f ≡ r
