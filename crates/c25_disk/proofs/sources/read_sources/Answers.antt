use Rattle.std.proofs.lemmas.Result.{err_from_is_err_and}
use Rattle.c25_disk.proofs.Completed.{completes_more, completes_none, ends_read, ends_refused}
use Rattle.c25_disk.proofs.sources.read_sources.Goals as goal

pub loop-name-init : goal.loop-name-init
loop-name-init g c = completes_none (g.D.Disk.bytes_of c.args.disk.now) c.args.names.now c.new-files.result c.new-files.ensures

pub loop-name-preserved : goal.loop-name-preserved
loop-name-preserved g c =
    completes_more (g.D.Disk.bytes_of c.args.disk.now) c.args.names.now c.loop-name.files c.add_source.new.files c.loop-name.name-index _
    c.loop-name-test.true c.in_ok-add_source.ensures c.loop-name.invariant

pub returns-in_err-add_source : goal.returns-in_err-add_source
returns-in_err-add_source g c =
    let p = err_from_is_err_and c.from_residual.result c.from_residual.ensures.1 in
    rw (p.1, p.2) (ends_refused (g.D.Disk.bytes_of c.args.disk.now) c.args.names.now c.loop-name.files c.loop-name.name-index _ c.in_err-add_source.field-0.0
    c.loop-name-test.true c.in_err-add_source.ensures c.loop-name.invariant)

pub returns : goal.returns
returns g c = ends_read (g.D.Disk.bytes_of c.args.disk.now) c.args.names.now c.loop-name.files c.loop-name.name-index c.loop-name-test.false c.loop-name.invariant
