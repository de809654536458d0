-- the bytes so far, with those of the rest that stand before the end, are those of all
use Rattle.std.proofs.Common.{◌≡◌, ◌++◌, drop, take}
use Rattle.c25_move.specs.Bytes.{before_end}
use Rattle.c25_move.proofs.bytes.before_end.Given as goal

abbrev pub invariant-loop-place : goal.invariant-loop-place
invariant-loop-place l = take l.place l.bytes ++ before_end (drop l.place l.bytes) ≡ before_end l.bytes
