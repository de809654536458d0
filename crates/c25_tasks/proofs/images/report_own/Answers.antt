use Rattle.std.proofs.Common.{string_bytes}
use Rattle.c25_image_source.specs.Faults.{image_fault, image_line}
use Rattle.c25_options.specs.Task.{text_of}
use Rattle.c25_tasks.specs.Images.{IsImageNote}
use Rattle.c25_tasks.specs.Running.{is_explained}
use Rattle.c25_tasks.proofs.Imaged.{noted_by}
use Rattle.c25_tasks.proofs.images.report_own.Goals as goal

pub returns : goal.returns
returns g c =
    let line = image_line (image_fault c.args.fault.now) in
    let noted = IsImageNote (g.D.Disk.bytes_of c.args.disk.now) (text_of c.args.telling.hints) (is_explained c.args.telling.notes) c.args.fault.now in
    noted_by line noted (string_bytes c.image_note-note.result) _ _ c.image_note-note.ensures (c.report_line.ensures line c.image_line.ensures)
