use Rattle.std.proofs.Common.{◌≡◌, take, map, string_bytes}
use Rattle.c25_rom.specs.Files.{lines_of}
use Rattle.c25_rom.specs.View.{contents_of}
use Rattle.c25_rom.proofs.lines.lines_of.Given as goal

abbrev pub invariant-loop-file : goal.invariant-loop-file
invariant-loop-file l = string_bytes l.text ≡ lines_of (map contents_of (take l.file-index l.files))
