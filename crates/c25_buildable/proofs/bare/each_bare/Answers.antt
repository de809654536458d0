use Rattle.c25_buildable.proofs.Nameless.{parts_done, parts_so_far}
use Rattle.c25_buildable.proofs.bare.each_bare.Goals as goal

pub loop-part-preserved : goal.loop-part-preserved
loop-part-preserved c =
    parts_so_far c.args.parts.now c.loop-part.made.items c.push.new.self.items c.loop-part.part-index c.part-item.result c.in_ok-bare.bare c.loop-part-test.true c.part-item.is c.loop-part.invariant c.in_ok-bare.ensures
    c.in_ok-push.ensures.items

pub returns : goal.returns
returns c = parts_done c.args.parts.now c.loop-part.made.items c.loop-part.part-index c.loop-part-test.false c.loop-part.invariant
