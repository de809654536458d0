use Rattle.c25_board.proofs.Rising.{rises}
use Rattle.c25_board.proofs.schedule.read_schedule.Goals as goal

pub invariant_of-result : goal.invariant_of-result
invariant_of-result c = rises c.args.text.now c.in_ok-entries.entries.items c.in_ok-entries.ensures
