use Rattle.std.proofs.Common.{string_bytes}
use Rattle.c25_tasks.proofs.Answered.{answered, given_input}
use Rattle.c25_tasks.proofs.Gathered.{of_input}
use Rattle.c25_tasks.specs.Running.{IsGivenInput, plain_details}
use Rattle.c25_explain.specs.declared.notes.Notes.TheVariants.{Nothing}
use Rattle.c25_source_notes.specs.declared.notes.SourceNotes.TheVariants.{Plain}
use Rattle.c25_tasks.proofs.standard_input.run_standard_input.Goals as goal

pub returns : goal.returns
returns g c =
    let held = g.D.Disk.bytes_of c.args.disk.now in
    let input = g.R.Read.remaining c.args.input.now in
    let ready = c.answer-ready.result in
    let tells = c.report_run-report.ensures.told (of_input held input ready c.answer-ready.ensures) in (
      (ready, c.answer-ready.ensures, tells),
      answered held (Plain Nothing) (IsGivenInput held input) 1000 plain_details ready c.report_run-report.result.report.ending (string_bytes c.report_run-report.result.report.note) _ (given_input held input ready c.answer-ready.ensures) tells,
    )
