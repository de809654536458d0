use Rattle.std.proofs.Common.{arith}
use Rattle.std.proofs.lemmas.Grind.{common_steps}
use Rattle.c25_disk.proofs.Copied.{copied_more}
use Rattle.c25_disk.proofs.copies.with_asked.Goals as goal

pub loop-preserved : goal.loop-preserved
loop-preserved g c =
    copied_more (g.D.Disk.bytes_of c.args.disk.now) c.args.files.now c.loop.files c.add_copy.new.files c.loop.counter c.as_str.result.now c.loop.invariant
    c.in_ok-add_copy-in-Lacks.ensures

pub returns : goal.returns
returns c = grind (arith, common_steps)
