-- The numbers and names of the faults of files.
use Rattle.std.specs.Prelude.{ℕ, List, codes}
use Rattle.c25_meaning_common.specs.Faults.{numbered}
use Rattle.c25_disk.specs.declared.fault.FileFault.{FileFault}
use Rattle.c25_disk.specs.declared.fault.FileFault.TheVariants.{CannotWrite, CannotRead, FileTwice}

-- the number of a file's fault
abbrev pub file_fault_number : FileFault → ℕ
file_fault_number CannotWrite = 7
file_fault_number CannotRead = 8
file_fault_number FileTwice = 37

-- the name of a file's fault
abbrev pub file_fault_name : FileFault → List ℕ
file_fault_name CannotWrite = codes "CannotWrite"
file_fault_name CannotRead = codes "CannotRead"
file_fault_name FileTwice = codes "FileTwice"

-- the number of a fault and its name, as a fault's line has them
abbrev pub file_fault_text : FileFault → List ℕ
file_fault_text f = numbered (file_fault_number f) (file_fault_name f)
