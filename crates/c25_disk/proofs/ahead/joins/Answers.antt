use Rattle.c25_disk.proofs.Copied.{copied_room}
use Rattle.c25_disk.proofs.ahead.joins.Goals as goal

pub returns-in-Ok : goal.returns-in-Ok
returns-in-Ok g c = λ given so_far room.
    let added = c.in-Ok.ensures.added in
    copied_room (g.D.Disk.bytes_of c.args.disk.now) given c.args.files.now c.add_file.new.files c.args.name.now so_far room (added.0, added.1, added.3)
