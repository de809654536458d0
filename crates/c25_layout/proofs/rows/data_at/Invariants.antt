-- the words so far stand in the image; they are as many as were passed
use Rattle.std.proofs.Common.{◌≡◌, ◌+◌, ◌≤◌, length}
use Rattle.c25_layout.specs.Layout.{StandAt}
use Rattle.c25_layout.proofs.rows.data_at.Given as goal

abbrev pub invariant-loop-passed : goal.invariant-loop-passed
invariant-loop-passed l = record {
  stands : StandAt l.found.words.now l.address l.row.items;
  count : length l.row.items ≡ l.passed;
  inside : l.address + l.passed ≤ 65536;
}
