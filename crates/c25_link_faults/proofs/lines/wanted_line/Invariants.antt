-- no instruction so far is the one that is looked for
use Rattle.std.proofs.Common.{◌≡◌, None, find, take}
use Rattle.std.specs.List.{zip}
use Rattle.c25_link_faults.specs.Sites.{is_wanted}
use Rattle.c25_link_faults.proofs.lines.wanted_line.Given as goal

abbrev pub invariant-loop-index : goal.invariant-loop-index
invariant-loop-index l = find (λ told. is_wanted l.wanted told.0) (take l.index (zip l.owner.marks.items l.owner.lines.items)) ≡ None
