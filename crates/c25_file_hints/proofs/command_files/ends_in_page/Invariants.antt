-- how many bytes of `PAGE` the last word of those so far begins with
use Rattle.std.proofs.Common.{◌≡◌, take}
use Rattle.std.specs.List.{fold}
use Rattle.c25_file_hints.specs.CommandFiles.{page_behind}
use Rattle.c25_file_hints.proofs.command_files.ends_in_page.Given as goal

abbrev pub invariant-loop-byte : goal.invariant-loop-byte
invariant-loop-byte l = l.count ≡ fold page_behind 0 (take l.byte-index l.text)
