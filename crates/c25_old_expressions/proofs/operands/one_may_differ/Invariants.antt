-- if the rest is of one value all are
use Rattle.std.proofs.Common.{map, drop}
use Rattle.c25_old_expressions.specs.Marks.{sym_of}
use Rattle.c25_old_expressions.specs.SameValue.{AreOfOneValue}
use Rattle.c25_old_expressions.proofs.operands.one_may_differ.Given as goal

abbrev pub invariant-loop-place : goal.invariant-loop-place
invariant-loop-place l = AreOfOneValue l.order (map (λ x. map sym_of x.now) (drop l.place l.old)) (map (λ x. map sym_of x.now) (drop l.place l.new)) → AreOfOneValue l.order (map (λ x. map sym_of x.now) l.old) (map (λ x. map sym_of x.now) l.new)
