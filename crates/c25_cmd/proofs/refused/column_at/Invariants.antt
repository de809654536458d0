-- the column after the bytes so far
use Rattle.std.proofs.Common.{◌≡◌, ◌≤◌, ◌+◌, take}
use Rattle.std.specs.List.{fold}
use Rattle.c25_cmd.specs.Refused.{column_behind}
use Rattle.c25_cmd.proofs.refused.column_at.Given as goal

abbrev pub invariant-loop-byte : goal.invariant-loop-byte
invariant-loop-byte l = record {
  told : l.column ≡ fold column_behind 1 (take l.byte-index l.before);
  bound : l.column ≤ l.byte-index + 1;
}
