use Rattle.std.proofs.Common.{string_bytes}
use Rattle.c25_inputs.specs.Files.{source_names}
use Rattle.c25_tasks.proofs.Answered.{why_added}
use Rattle.c25_tasks.proofs.running.run_ready.Goals as goal

pub returns : goal.returns
returns g c =
    let held = g.D.Disk.bytes_of c.args.disk.now in
    let sources = source_names c.args.asked.named.sources in
    let options = c.args.asked.options in
    let run = c.print_ready-report in (
      string_bytes run.result.report.note,
      run.ensures.told,
      why_added held sources options.steps c.args.asked.named.files options.notes c.is_explained.result run.result.left c.run_end.result c.in-Some.end (string_bytes run.result.report.note) (string_bytes c.with_why-note.result)
          c.is_explained.ensures c.if-not-is_explained.false run.ensures.left c.in-Some.is c.run_end.ensures c.with_why-note.ensures,
    )
