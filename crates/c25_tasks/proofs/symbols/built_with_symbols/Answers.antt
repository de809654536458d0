use Rattle.std.proofs.Common.{◌∙◌, ap, map, string_bytes}
use Rattle.c25_inputs.specs.Files.{assembled_in, source_names}
use Rattle.c25_tasks.specs.Symbols.{BuildsWithSymbolsOver}
use Rattle.c25_inputs.proofs.Gathering.{inputs_read, inputs_refused, inputs_shown, of_command_alone}
use Rattle.c25_tasks.proofs.WithSymbols.{over_same, over_told}
use Rattle.c25_tasks.proofs.symbols.built_with_symbols.Goals as goal

pub returns-in_err-inputs : goal.returns-in_err-inputs
returns-in_err-inputs g c =
    let held = g.D.Disk.bytes_of c.args.disk.now in
    let sources = source_names c.args.sources in
    let names = assembled_in sources in
    of_command_alone held sources c.args.command c.command_alone.result (λ given. BuildsWithSymbolsOver held given names sources.names) c.from_residual.result c.command_alone.ensures
    (inputs_refused held sources c.command_alone.result (λ given command samples schedule. BuildsWithSymbolsOver held given names sources.names command) c.from_residual.result c.in_err-inputs.field-0.0
    (λ given command samples schedule fault. over_told held given names sources.names command fault) c.in_err-inputs.ensures c.from_residual.ensures.1)

pub returns : goal.returns
returns g c =
    let held = g.D.Disk.bytes_of c.args.disk.now in
    let sources = source_names c.args.sources in
    let names = assembled_in sources in
    of_command_alone held sources c.args.command c.command_alone.result (λ given. BuildsWithSymbolsOver held given names sources.names) c.work_over.result c.command_alone.ensures
    (inputs_read held sources c.command_alone.result (λ given command samples schedule. BuildsWithSymbolsOver held given names sources.names command) c.in_ok-inputs.inputs c.work_over.result c.in_ok-inputs.ensures
    (λ named. over_same held _ names _ sources.names _ _ _ c.work_over.result (ap (λ xs. map string_bytes xs) c.as_slice.ensures.value ∙ named)
    (ap (λ xs. map string_bytes xs) c.as_slice-2.ensures.value ∙ inputs_shown held sources c.command_alone.result c.in_ok-inputs.inputs c.in_ok-inputs.ensures) c.as_str.ensures.value c.work_over.ensures))
