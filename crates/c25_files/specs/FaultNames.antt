-- The names of the faults for which a text is not added to files.
use Rattle.std.specs.Prelude.{ℕ, List, codes}
use Rattle.c25_files.specs.declared.files.AddFault.{AddFault}
use Rattle.c25_files.specs.declared.files.AddFault.TheVariants.{FileTwice, CannotRead}

-- the name of a fault, as it is shown to the user
abbrev pub fault_name : AddFault → List ℕ
fault_name FileTwice = codes "FileTwice"
fault_name CannotRead = codes "CannotRead"
