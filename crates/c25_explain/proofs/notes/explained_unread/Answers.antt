use Rattle.std.proofs.Common.{refl}
use Rattle.c25_explain.specs.declared.note.Shown.TheVariants as shown
use Rattle.c25_explain.proofs.Noted.{unread}
use Rattle.c25_explain.proofs.notes.explained_unread.Goals as goal

pub returns-in-Some : goal.returns-in-Some
returns-in-Some g c =
    unread (g.D.Disk.refuses c.args.disk.now) (g.D.Disk.bytes_of c.args.disk.now) c.args.file.now c.args.after.now c.args.fault (shown.Unread c.args.file c.in-Some.why) c.explained.result (refl, c.in-Some.ensures) c.explained.ensures
