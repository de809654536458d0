-- what was counted, with what the parts that are left are, is what all are; the memory has room for these
use Rattle.std.proofs.Common.{◌≡◌, drop, length}
use Rattle.c25_layout.specs.Layout.{parts_words}
use Rattle.c25_reach.specs.Reached.{parts_reach, together}
use Rattle.c25_reach.specs.Room.{HasRoom}
use Rattle.c25_reach.proofs.reach.reach_of.Given as goal

abbrev pub invariant-loop-part : goal.invariant-loop-part
invariant-loop-part l = record {
  counted : together l.reach (parts_reach (drop l.part-index l.parts)) ≡ parts_reach l.parts;
  room : HasRoom l.reach (length (parts_words (drop l.part-index l.parts)));
}
