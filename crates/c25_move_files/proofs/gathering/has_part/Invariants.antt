-- one of the files that are left has the part where one of all has it
use Rattle.std.proofs.Common.{◌≡◌, drop}
use Rattle.c25_move_files.specs.Refusals.{has_part, names_of}
use Rattle.c25_move_files.proofs.gathering.has_part.Given as goal

abbrev pub invariant-loop-file : goal.invariant-loop-file
invariant-loop-file l = has_part (names_of (drop l.file-index l.files)) l.part ≡ has_part (names_of l.files) l.part
