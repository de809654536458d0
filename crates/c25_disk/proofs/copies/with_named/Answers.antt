use Rattle.std.proofs.Common.{arith}
use Rattle.std.proofs.lemmas.Grind.{common_steps}
use Rattle.c25_disk.proofs.Copied.{copied_room}
use Rattle.c25_disk.proofs.copies.with_named.Goals as goal

pub loop-preserved : goal.loop-preserved
loop-preserved g c = (
  c.read_ahead.ensures c.args.files.now c.loop.invariant.1
      (copied_room (g.D.Disk.bytes_of c.args.disk.now) c.args.files.now c.loop.files c.add_copy.new.files c.as_str.result.now c.loop.invariant.0
      (omega (arith, c.if-len-most.false, c.len-in-Lacks.ensures, c.loop.invariant.1)) c.in_ok-add_copy-in-Lacks.ensures),
  c.loop.invariant.1,
)

pub loop-init : goal.loop-init
loop-init c = grind (arith, common_steps)
