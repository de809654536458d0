-- The line that reports a fault: its place, its number and its name.
use Rattle.std.specs.Prelude.{ℕ, List, ◌++◌, codes}
use Rattle.c25_meaning_linking.specs.CommandFaults.{command_text}
use Rattle.c25_meaning_common.specs.Faults.{numbered, placed_text}
use Rattle.c25_hex.specs.Faults.{hex_text}
use Rattle.c25_meaning_language.specs.Faults.{numbered_name}
use Rattle.c25_meaning_objects.specs.Faults.{object_text}
use Rattle.c25_meaning_linking.specs.LinkFaults.{link_text}
use Rattle.c25_meaning_common.specs.declared.failure.Failure.TheVariants as failure
use Rattle.c25_meaning_language.specs.declared.statement.FaultKind.TheVariants as kind
use Rattle.c25_meaning_linking.specs.declared.link_fault.LinkFault.{LinkFault}
use Rattle.c25_disk.specs.FaultNames.{file_fault_text}
use Rattle.c25_disk.specs.declared.fault.FileFault.{FileFault}
use Rattle.c25_chain.specs.Refusal.{Fault, refusal_of}
use Rattle.c25_chain.specs.declared.fault.ChainFault.{ChainFault}
use Rattle.c25_chain.specs.declared.fault.ChainFault.TheVariants.{Source, NoFile, Object, Command, Link, Hex, Schedule, Samples, Script, File}

-- a fault of linking, with the symbol or the section
abbrev pub link_line : List ℕ → LinkFault → List ℕ
link_line name fault = codes "link:" ++ name ++ codes ": " ++ link_text fault

-- a fault of a file
abbrev pub at_file : List ℕ → FileFault → List ℕ
at_file name fault = name ++ codes ": " ++ file_fault_text fault

-- the line of a fault that is not out of memory
abbrev pub refusal_text : ChainFault (List ℕ) → List ℕ
refusal_text (Source f) = placed_text f.place.file f.place.line (numbered_name f.fault)
refusal_text (NoFile file line name) = placed_text file line (numbered_name kind.NoFile)
refusal_text (Object f) = f.place ++ codes ": " ++ object_text f.fault
refusal_text (Command f) = placed_text (codes "command") f.place (command_text f.fault)
refusal_text (Link f) = link_line f.place f.fault
refusal_text (Hex f) = placed_text (codes "hex") f.place (hex_text f.fault)
refusal_text (Schedule line) = placed_text (codes "schedule") line (numbered 90 (codes "BadSchedule"))
refusal_text (Samples line) = placed_text (codes "samples") line (numbered 91 (codes "BadSamples"))
refusal_text (Script line) = placed_text (codes "script") line (numbered 95 (codes "BadCommand"))
refusal_text (File f) = at_file f.place f.fault

-- the line of a fault
abbrev pub fault_text : Fault → List ℕ
fault_text (failure.NoMemory n) = codes "memory: 9 NoMemory"
fault_text (failure.Fault refusal) = refusal_text (refusal_of refusal)
