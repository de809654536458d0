use Rattle.std.proofs.Common.{[], ◌∷◌, ap}
use Rattle.c25_fronts.specs.Folders.{in_folders}
use Rattle.c25_options.specs.Task.{text_of, texts_of}
use Rattle.c25_tasks.specs.Reading.{definitions_in, read_by}
use Rattle.c25_tasks.proofs.Answering.{asm_or_reports}
use Rattle.c25_tasks.proofs.assembly.outputs_or_report.Goals as goal

pub returns : goal.returns
returns g c =
    let task = c.args.task.now in
    let source = task.source.now in
    let opens = g.D.Disk.opens c.args.disk.now in
    let held = g.D.Disk.bytes_of c.args.disk.now in
    asm_or_reports _ (read_by (source ∷ []) [] task.reading opens held) c.args.notes _ (definitions_in task.reading) source task.object.now (text_of task.listing) c.asm_outputs-answer.result c.answer_or_report.result
    (ap texts_of c.deref-2.ensures.value) (λ i. in_folders (source ∷ []) [] (texts_of (c.deref.ensures.value i)) opens held) c.asm_outputs-answer.ensures c.answer_or_report.ensures
