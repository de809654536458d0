-- the last byte of those so far that is no blank
use Rattle.std.proofs.Common.{◌≡◌, take}
use Rattle.std.specs.List.{fold}
use Rattle.c25_file_hints.specs.CommandFiles.{visible_behind}
use Rattle.c25_file_hints.proofs.command_files.last_visible.Given as goal

abbrev pub invariant-loop-byte : goal.invariant-loop-byte
invariant-loop-byte l = l.last ≡ fold visible_behind 0 (take l.byte-index l.text)
