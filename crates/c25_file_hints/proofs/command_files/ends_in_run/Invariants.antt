-- how many bytes of `run=` those so far end with
use Rattle.std.proofs.Common.{◌≡◌, take}
use Rattle.std.specs.List.{fold}
use Rattle.c25_file_hints.specs.CommandFiles.{run_behind}
use Rattle.c25_file_hints.proofs.command_files.ends_in_run.Given as goal

abbrev pub invariant-loop-byte : goal.invariant-loop-byte
invariant-loop-byte l = l.count ≡ fold run_behind 0 (take l.byte-index l.text)
