use Rattle.std.proofs.Common.{ap}
use Rattle.c25_options.specs.Task.{text_of}
use Rattle.c25_moving.specs.Moving.{AreUnread, HasNoArgument}
use Rattle.c25_moving.proofs.MadeFrom.{made_held}
use Rattle.c25_moving.proofs.Refusing.{all_short, no_program}
use Rattle.c25_moving.proofs.moving.made_on.Goals as goal

pub returns-in-None-clause-refused : goal.returns-in-None-clause-refused
returns-in-None-clause-refused g c =
    all_short (AreUnread (g.D.Disk.bytes_of c.args.disk.now) c.args.task.now) (HasNoArgument c.args.task.now) c.made_of.result c.made_of.ensures.refused

pub returns-in-Ok-clause-made : goal.returns-in-Ok-clause-made
returns-in-Ok-clause-made g c =
    made_held (g.D.Disk.bytes_of c.args.disk.now) c.args.task.now c.args.gathered.now _ c.made_of-in-Some.result c.made_of-in-Some.ensures.made (ap text_of c.in-Some.is) c.in-Ok.ensures.words

pub returns-in-Ok-clause-refused : goal.returns-in-Ok-clause-refused
returns-in-Ok-clause-refused g c =
    all_short (AreUnread (g.D.Disk.bytes_of c.args.disk.now) c.args.task.now) (HasNoArgument c.args.task.now) c.made_of-in-Some.result c.made_of-in-Some.ensures.refused

pub returns-in-Err-clause-refused : goal.returns-in-Err-clause-refused
returns-in-Err-clause-refused g c =
    no_program (g.D.Disk.bytes_of c.args.disk.now) c.args.task.now _ c.in-Err.refusal c.ending_of.result (ap text_of c.in-Some.is) c.ending_of.ensures c.in-Err.ensures.refused
