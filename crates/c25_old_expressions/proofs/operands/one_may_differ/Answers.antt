use Rattle.std.proofs.Common.{◌≤◌, min, length, arith}
use Rattle.c25_old_expressions.proofs.Commas.{none_left}
use Rattle.c25_old_expressions.proofs.operands.one_may_differ.Goals as goal

pub returns : goal.returns
returns c = λ _.
    let all : min (length c.args.old.now) (length c.args.new.now) ≤ c.loop-place.place = omega (arith, c.min-count.ensures, c.loop-place-test.false) in
    c.loop-place.invariant (none_left c.args.order c.args.old.now c.args.new.now c.loop-place.place all)
