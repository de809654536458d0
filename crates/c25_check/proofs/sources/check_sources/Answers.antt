use Rattle.std.proofs.Common.{◌∙◌, ap, map, string_bytes}
use Rattle.c25_check.specs.Checking.{ChecksOver}
use Rattle.c25_check.specs.Showing.{paging_for, showing_for}
use Rattle.c25_check.specs.declared.showing.Paging.{Paging}
use Rattle.c25_check.proofs.Gathered.{checks_over, checks_short}
use Rattle.c25_inputs.specs.Files.{assembled_in, source_names}
use Rattle.c25_options.specs.Task.{text_of}
use Rattle.c25_inputs.proofs.Gathering.{inputs_read, inputs_refused, of_command_alone}
use Rattle.c25_check.proofs.sources.check_sources.Goals as goal

pub returns-in_err-inputs : goal.returns-in_err-inputs
returns-in_err-inputs g c =
    let held = g.D.Disk.bytes_of c.args.disk.now in
    let sources = source_names c.args.sources in
    let showing = showing_for c.args.asked.explain (paging_for c.args.asked.pages (text_of c.args.command)) sources in
    let names = assembled_in sources in
    of_command_alone held sources c.args.command c.command_alone.result (λ given. ChecksOver showing held given names) c.from_residual.result c.command_alone.ensures
    (inputs_refused held sources c.command_alone.result (λ given command samples schedule. ChecksOver showing held given names command) c.from_residual.result c.in_err-inputs.field-0.0
    (λ given command samples schedule fault. checks_short showing held given names command fault) c.in_err-inputs.ensures c.from_residual.ensures.1)

pub returns : goal.returns
returns g c =
    let held = g.D.Disk.bytes_of c.args.disk.now in
    let sources = source_names c.args.sources in
    let showing = showing_for c.args.asked.explain (paging_for c.args.asked.pages (text_of c.args.command)) sources in
    let names = assembled_in sources in
    of_command_alone held sources c.args.command c.command_alone.result (λ given. ChecksOver showing held given names) c.work_over.result c.command_alone.ensures
    (inputs_read held sources c.command_alone.result (λ given command samples schedule. ChecksOver showing held given names command) c.in_ok-inputs.inputs c.work_over.result c.in_ok-inputs.ensures
    (λ named. checks_over showing c.showing_for-showing.result held _ names _ _ _ c.work_over.result (c.showing_for-showing.ensures ∙ ap (λ (paging : Paging). showing_for c.args.asked.explain paging sources) c.paging_for-paging.ensures) (ap (λ xs. map string_bytes xs) c.as_slice.ensures.value ∙ named) c.as_str.ensures.value c.work_over.ensures))
