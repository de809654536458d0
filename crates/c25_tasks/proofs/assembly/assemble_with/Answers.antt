use Rattle.std.proofs.Common.{[], ◌∷◌}
use Rattle.c25_options.specs.Task.{text_of}
use Rattle.c25_tasks.specs.Reading.{definitions_in, read_by}
use Rattle.c25_tasks.proofs.Answering.{assembles, assembles_none}
use Rattle.c25_tasks.proofs.Quiet.{stays}
use Rattle.c25_tasks.proofs.assembly.assemble_with.Goals as goal

pub returns-in-Ok : goal.returns-in-Ok
returns-in-Ok g c =
    let task = c.args.task.now in
    let read = read_by (task.source.now ∷ []) [] task.reading (g.D.Disk.opens c.args.disk.now) (g.D.Disk.bytes_of c.args.disk.now) in
    assembles read c.args.notes (definitions_in task.reading) task.source.now task.object.now (text_of task.listing) c.outputs_or_report.result _ c.in-Ok.outputs _ _ _ c.in-Ok.is c.outputs_or_report.ensures c.as_slice.ensures.value
    (c.write_files.ensures read)

pub returns-in-Err : goal.returns-in-Err
returns-in-Err g c =
    let task = c.args.task.now in
    let read = read_by (task.source.now ∷ []) [] task.reading (g.D.Disk.opens c.args.disk.now) (g.D.Disk.bytes_of c.args.disk.now) in
    assembles_none read c.args.notes (definitions_in task.reading) task.source.now task.object.now (text_of task.listing) c.outputs_or_report.result _ c.in-Err.report c.in-Err.is c.outputs_or_report.ensures (stays _)
