use Rattle.c25_layout.proofs.Runs.{none_so_far, one_more}
use Rattle.c25_layout.proofs.erased.long_runs.Goals as goal

pub loop-address-init : goal.loop-address-init
loop-address-init c = rw c.new-marks.ensures.items (none_so_far c.args.words.now c.args.least)

pub loop-address-preserved : goal.loop-address-preserved
loop-address-preserved c =
    one_more c.args.words.now c.args.least c.loop-address.marks.items c.push.new.self.items c.loop-address.address c.loop-address.before c.end_at-end.result c.before_next-before.result c.is_long.result c.loop-address.invariant c.in_ok-push.ensures.items
    c.end_at-end.ensures c.is_long.ensures c.before_next-before.ensures
