use Rattle.c25_move_files.proofs.Each.{named_more, read_more}
use Rattle.c25_move_files.proofs.Refusing.{unread_there}
use Rattle.c25_move_files.proofs.gathering.sources.Goals as goal

pub loop-name-preserved : goal.loop-name-preserved
loop-name-preserved g c = (
  named_more c.args.names.now c.loop-name.name-index _ c.loop-name.files.items c.push.new.self.items c.in_ok-file.file c.loop-name-test.true c.in_default.ensures.items c.loop-name.invariant.0 c.in_ok-file.ensures.name,
  read_more (g.D.Disk.bytes_of c.args.old.now.disk.now) c.args.old.now.code_page c.loop-name.files.items c.push.new.self.items c.in_ok-file.file c.in_default.ensures.items c.loop-name.invariant.1 c.in_ok-file.ensures.read,
)

pub returns-in_err-file-clause-refused : goal.returns-in_err-file-clause-refused
returns-in_err-file-clause-refused g c =
    unread_there (g.D.Disk.bytes_of c.args.old.now.disk.now) c.args.old.now.code_page c.args.names.now c.loop-name.name-index _ c.loop-name.files.items _ c.from_residual.result c.in_err-file.field-0.0
    c.loop-name-test.true c.as_slice.ensures.value c.loop-name.invariant.0 c.loop-name.invariant.1 c.in_err-file.ensures.refused c.from_residual.ensures.1
