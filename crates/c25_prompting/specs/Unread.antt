-- The fault of a standard input that cannot be read.
use Rattle.std.specs.Prelude.{ℕ, List, codes}
use Rattle.c25_chain.specs.declared.fault.ChainFault.{ChainFault}
use Rattle.c25_chain.specs.declared.fault.ChainFault.TheVariants.{File}
use Rattle.c25_disk.specs.declared.fault.FileFault.TheVariants.{CannotRead}

-- standard input, as the file `stdin`, cannot be read (8)
abbrev pub unread_input : ChainFault (List ℕ)
unread_input = File (record { place = codes "stdin"; fault = CannotRead })
