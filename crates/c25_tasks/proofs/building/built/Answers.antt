use Rattle.std.proofs.Common.{◌∙◌, ap, map, string_bytes}
use Rattle.c25_inputs.specs.Files.{assembled_in, source_names}
use Rattle.c25_tasks.specs.Building.{BuildsOver}
use Rattle.c25_tasks.proofs.Gathered.{builds_over, builds_short}
use Rattle.c25_inputs.proofs.Gathering.{inputs_read, inputs_refused, of_command_alone}
use Rattle.c25_tasks.proofs.building.built.Goals as goal

pub returns-in_err-inputs : goal.returns-in_err-inputs
returns-in_err-inputs g c =
    let held = g.D.Disk.bytes_of c.args.disk.now in
    let sources = source_names c.args.sources in
    let names = assembled_in sources in
    of_command_alone held sources c.args.command c.command_alone.result (λ given. BuildsOver held given names) c.from_residual.result c.command_alone.ensures
    (inputs_refused held sources c.command_alone.result (λ given command samples schedule. BuildsOver held given names command) c.from_residual.result c.in_err-inputs.field-0.0
    (λ given command samples schedule fault. builds_short held given names command fault) c.in_err-inputs.ensures c.from_residual.ensures.1)

pub returns : goal.returns
returns g c =
    let held = g.D.Disk.bytes_of c.args.disk.now in
    let sources = source_names c.args.sources in
    let names = assembled_in sources in
    of_command_alone held sources c.args.command c.command_alone.result (λ given. BuildsOver held given names) c.work_over.result c.command_alone.ensures
    (inputs_read held sources c.command_alone.result (λ given command samples schedule. BuildsOver held given names command) c.in_ok-inputs.inputs c.work_over.result c.in_ok-inputs.ensures
    (λ named. builds_over held _ names _ _ _ c.work_over.result (ap (λ xs. map string_bytes xs) c.as_slice.ensures.value ∙ named) c.as_str.ensures.value c.work_over.ensures))
