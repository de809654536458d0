use Rattle.std.proofs.Common.{string_bytes}
use Rattle.c25_options.specs.Task.{text_of}
use Rattle.c25_tasks.proofs.Imaged.{tells_own}
use Rattle.c25_tasks.proofs.images.report_image.Goals as goal

pub returns-in_default : goal.returns-in_default
returns-in_default g c =
    let report = c.report_own.result in
    tells_own (g.D.Disk.bytes_of c.args.disk.now) c.args.telling.notes (text_of c.args.telling.hints) c.args.fault report.ending (string_bytes report.note) c.in_default.not-Chain c.report_own.ensures
