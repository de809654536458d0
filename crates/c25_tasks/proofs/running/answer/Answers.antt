use Rattle.std.proofs.Common.{◌∙◌, ap, map, string_bytes}
use Rattle.c25_inputs.specs.Files.{assembled_in, source_names}
use Rattle.c25_tasks.specs.Running.{ReadiesOver}
use Rattle.c25_tasks.proofs.Gathered.{readies_over, readies_short}
use Rattle.c25_inputs.proofs.Gathering.{inputs_read, inputs_refused}
use Rattle.c25_tasks.proofs.running.answer.Goals as goal

pub returns-in_err-inputs : goal.returns-in_err-inputs
returns-in_err-inputs g c =
    let held = g.D.Disk.bytes_of c.args.disk.now in
    let sources = source_names c.args.named.sources in
    let names = assembled_in sources in
    inputs_refused held sources c.args.named.files (λ given. ReadiesOver held given names) c.from_residual.result c.in_err-inputs.field-0.0
    (λ given command samples schedule fault. readies_short held given names command samples schedule fault) c.in_err-inputs.ensures c.from_residual.ensures.1

pub returns : goal.returns
returns g c =
    let held = g.D.Disk.bytes_of c.args.disk.now in
    let sources = source_names c.args.named.sources in
    let names = assembled_in sources in
    inputs_read held sources c.args.named.files (λ given. ReadiesOver held given names) c.in_ok-inputs.inputs c.work_over.result c.in_ok-inputs.ensures
    (λ named. readies_over held _ names _ _ _ _ _ _ _ c.work_over.result (ap (λ xs. map string_bytes xs) c.as_slice.ensures.value ∙ named) c.as_str.ensures.value c.as_str-2.ensures.value c.as_str-3.ensures.value c.work_over.ensures)
