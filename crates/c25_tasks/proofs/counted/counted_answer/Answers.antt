use Rattle.std.proofs.Common.{◌∙◌, ap, map, string_bytes}
use Rattle.c25_inputs.specs.Files.{assembled_in, source_names}
use Rattle.c25_tasks.specs.Counting.{CountsOver}
use Rattle.c25_tasks.proofs.ReadyCounts.{counts_over, counts_short}
use Rattle.c25_inputs.proofs.Gathering.{inputs_read, inputs_refused}
use Rattle.c25_tasks.proofs.counted.counted_answer.Goals as goal

pub returns-in_err-inputs : goal.returns-in_err-inputs
returns-in_err-inputs g c =
    let held = g.D.Disk.bytes_of c.args.disk.now in
    let sources = source_names c.args.named.sources in
    let names = assembled_in sources in
    inputs_refused held sources c.args.named.files (λ given. CountsOver held given names c.args.steps) c.from_residual.result c.in_err-inputs.field-0.0
    (λ given command samples schedule fault. counts_short held given names c.args.steps command samples schedule fault) c.in_err-inputs.ensures c.from_residual.ensures.1

pub returns : goal.returns
returns g c =
    let held = g.D.Disk.bytes_of c.args.disk.now in
    let sources = source_names c.args.named.sources in
    let names = assembled_in sources in
    inputs_read held sources c.args.named.files (λ given. CountsOver held given names c.args.steps) c.in_ok-inputs.inputs c.work_over.result c.in_ok-inputs.ensures
    (λ named. counts_over held _ names _ c.args.steps _ _ _ _ _ _ c.work_over.result (ap (λ xs. map string_bytes xs) c.as_slice.ensures.value ∙ named) c.as_str.ensures.value c.as_str-2.ensures.value c.as_str-3.ensures.value c.work_over.ensures)
