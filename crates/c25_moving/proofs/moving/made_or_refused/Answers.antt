use Rattle.c25_moving.specs.Moving.{IsRefusal}
use Rattle.c25_moving.proofs.Refusing.{handed_on, no_files}
use Rattle.c25_moving.proofs.moving.made_or_refused.Goals as goal

pub returns-in_err-asked-clause-refused : goal.returns-in_err-asked-clause-refused
returns-in_err-asked-clause-refused g c =
    handed_on (IsRefusal (g.D.Disk.bytes_of c.args.disk.now) c.args.task.now) c.from_residual.result c.in_err-asked.field-0.0 c.from_residual.ensures.1 (c.in_err-asked.ensures.refused (g.D.Disk.bytes_of c.args.disk.now))

pub returns-in-Err-clause-refused : goal.returns-in-Err-clause-refused
returns-in-Err-clause-refused g c =
    no_files (g.D.Disk.bytes_of c.args.disk.now) c.args.task.now c.in_ok-asked.asked c.in-Err.refusal c.ending_of.result c.in_ok-asked.ensures.asked c.ending_of.ensures c.in-Err.ensures.refused
