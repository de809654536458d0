-- What the assembler's types stand for.
use Rattle.c25_meaning_assembly.specs.ModuleOfSource as source
use Rattle.c25_listing.specs.View.{entries_of}
use Rattle.c25_listing.specs.declared.listing.Listing.{Listing}
use Rattle.c25_phases.specs.View.{progress_of}
use Rattle.c25_asm.specs.declared.lines_so_far.LinesSoFar.{LinesSoFar}

-- the state between two lines
abbrev pub passed_of : LinesSoFar → source.LinesSoFar
passed_of p = record { progress = progress_of p.progress.value; entries = entries_of p.entries.items }

-- a module and its listing
abbrev pub assembled_of : Listing → source.Assembled
assembled_of l = record { contents = l.module; entries = entries_of l.entries.items }
