-- the parts so far stand there
use Rattle.std.proofs.Common.{◌≡◌, take, map}
use Rattle.c25_map.specs.View.{part_data}
use Rattle.c25_link.specs.Described.{part_data_of}
use Rattle.c25_link.proofs.described.described_parts.Given as goal

abbrev pub invariant-loop-part : goal.invariant-loop-part
invariant-loop-part l = map part_data l.described.items ≡ map part_data_of (take l.part-index l.parts)
