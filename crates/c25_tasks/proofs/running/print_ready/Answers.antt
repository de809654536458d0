use Rattle.std.proofs.Common.{string_bytes}
use Rattle.c25_inputs.specs.Files.{source_names}
use Rattle.c25_tasks.proofs.Answered.{answered, given_from, left_from}
use Rattle.c25_tasks.proofs.Gathered.{of_files}
use Rattle.c25_tasks.specs.Running.{IsGivenFrom}
use Rattle.c25_tasks.proofs.running.print_ready.Goals as goal

pub returns-clause-told : goal.returns-clause-told
returns-clause-told g c =
    let held = g.D.Disk.bytes_of c.args.disk.now in
    let sources = source_names c.args.asked.named.sources in
    let files = c.args.asked.named.files in
    let options = c.args.asked.options in
    let tells = c.report_run.ensures.told (of_files held sources files c.args.ready c.requires) in (
      (c.args.ready, c.requires, tells),
      answered held options.notes (IsGivenFrom held sources files) options.steps options.details c.args.ready c.report_run.result.report.ending (string_bytes c.report_run.result.report.note) _ (given_from held sources files c.args.ready c.requires) tells,
    )

pub returns-clause-left : goal.returns-clause-left
returns-clause-left g c =
    let held = g.D.Disk.bytes_of c.args.disk.now in
    let sources = source_names c.args.asked.named.sources in
    let files = c.args.asked.named.files in
    left_from held sources c.args.asked.options.steps files c.args.ready c.report_run.result.left c.requires (c.report_run.ensures.left (of_files held sources files c.args.ready c.requires))
