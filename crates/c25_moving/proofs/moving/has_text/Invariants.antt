-- one of the files that are left has the text where one of all has it
use Rattle.std.proofs.Common.{◌≡◌, drop, map}
use Rattle.c25_move_files.specs.Files.{old_of}
use Rattle.c25_moving.specs.Moving.{has_text}
use Rattle.c25_moving.proofs.moving.has_text.Given as goal

abbrev pub invariant-loop-file : goal.invariant-loop-file
invariant-loop-file l = has_text (map old_of (drop l.file-index l.files)) l.text ≡ has_text (map old_of l.files) l.text
