use Rattle.c25_disk.proofs.Copied.{ends_again}
use Rattle.c25_disk.proofs.copies.with_either.Goals as goal

pub returns-in-Ok-None : goal.returns-in-Ok-None
returns-in-Ok-None g c =
    ends_again (g.D.Disk.bytes_of c.args.disk.now) c.args.files.now c.with_named.new.files c.truncate.new.self c.len-count.result (g.W.Work.comes_to c.args.work.now) g.W.Work.missing_of c.with_asked.result
    c.len-count.ensures c.in-Ok-None.ensures.kept c.truncate.ensures c.with_asked.ensures
