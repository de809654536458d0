use Rattle.std.proofs.Common.{sym, subst}
use Rattle.std.proofs.lemmas.Result.{err_from_is_err_and}
use Rattle.c25_inputs.specs.Objects.{ReadsBytes, objects_of}
use Rattle.c25_inputs.proofs.Unread.{no_memory_among, texts, unread_at}
use Rattle.c25_inputs.proofs.objects.read_objects.Goals as goal

pub returns-in_err-push-in-Ok : goal.returns-in_err-push-in-Ok
returns-in_err-push-in-Ok g c =
    let p = err_from_is_err_and c.from_residual.result c.from_residual.ensures.1 in
    subst (ReadsBytes (g.D.Disk.bytes_of c.args.disk.now) (texts c.args.names.now)) (sym p.1)
    (no_memory_among (g.D.Disk.bytes_of c.args.disk.now) c.args.names.now c.loop-name.name-index p.0 c.loop-name-test.true p.2)

pub returns-in-Err : goal.returns-in-Err
returns-in-Err g c =
    unread_at (g.D.Disk.bytes_of c.args.disk.now) c.args.names.now (objects_of c.loop-name.objects.items) c.loop-name.name-index _ c.fault_of_file.result c.loop-name-test.true c.loop-name.invariant (c.in-Err.failure, c.in-Err.ensures.fault, c.fault_of_file.ensures)
