-- no instruction so far has the word
use Rattle.std.proofs.Common.{◌≡◌, None, find, take}
use Rattle.std.specs.List.{zip}
use Rattle.c25_link.specs.Misfits.{has_word}
use Rattle.c25_link.proofs.misfits.instruction_line.Given as goal

abbrev pub invariant-loop-index : goal.invariant-loop-index
invariant-loop-index l = find (λ told. has_word l.relocation told.0) (take l.index (zip l.owner.marks.items l.owner.lines.items)) ≡ None
