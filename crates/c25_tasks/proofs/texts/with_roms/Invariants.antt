use Rattle.std.proofs.Common.{◌≡◌, ◌++◌, drop, map}
use Rattle.c25_disk.specs.Written.{contents_of}
use Rattle.c25_rom.specs.View as rom
use Rattle.c25_tasks.proofs.texts.with_roms.Given as goal

abbrev pub invariant-loop-file : goal.invariant-loop-file
invariant-loop-file l = map contents_of l.outputs.items ++ map rom.contents_of (drop l.file-index l.roms) ≡ map contents_of l.fn.files.items ++ map rom.contents_of l.roms
