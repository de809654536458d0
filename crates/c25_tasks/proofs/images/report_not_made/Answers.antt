use Rattle.std.proofs.Common.{string_bytes}
use Rattle.c25_image_source.specs.Faults.{not_made_line}
use Rattle.c25_tasks.specs.Images.{IsNotMadeNote}
use Rattle.c25_tasks.proofs.Imaged.{noted_by}
use Rattle.c25_tasks.proofs.images.report_not_made.Goals as goal

pub returns : goal.returns
returns c =
    let line = not_made_line c.args.why in
    noted_by line (IsNotMadeNote c.args.explain c.args.why) (string_bytes c.not_made_note-note.result) _ _ c.not_made_note-note.ensures (c.report_line.ensures line c.not_made_line.ensures)
