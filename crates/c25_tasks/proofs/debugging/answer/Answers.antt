use Rattle.std.proofs.Common.{◌∙◌, ap, inl, inr, map, string_bytes}
use Rattle.c25_inputs.specs.Files.{assembled_in, source_names}
use Rattle.c25_tasks.specs.Debugging.{DebugsOver}
use Rattle.c25_inputs.specs.Files.{AfterNamed, IsUnread}
use Rattle.c25_tasks.proofs.Debugged.{debugs_over}
use Rattle.c25_inputs.proofs.Fails.{fails_with, unread_short}
use Rattle.c25_inputs.proofs.Gathering.{inputs_read, inputs_refused}
use Rattle.c25_tasks.proofs.debugging.answer.Goals as goal

pub returns-in_err-inputs : goal.returns-in_err-inputs
returns-in_err-inputs g c =
    let held = g.D.Disk.bytes_of c.args.disk.now in
    let sources = source_names c.args.named.sources in
    let names = assembled_in sources in
    inputs_refused held sources c.args.named.files (λ given command samples schedule. AfterNamed held c.args.named.script.now (DebugsOver held given names command samples schedule)) c.from_residual.result c.in_err-inputs.field-0.0
    (λ given command samples schedule fault short. inl (unread_short c.args.named.script.now fault short)) c.in_err-inputs.ensures c.from_residual.ensures.1

pub returns-in_err-script : goal.returns-in_err-script
returns-in_err-script g c =
    let held = g.D.Disk.bytes_of c.args.disk.now in
    let sources = source_names c.args.named.sources in
    let names = assembled_in sources in
    inputs_read held sources c.args.named.files (λ given command samples schedule. AfterNamed held c.args.named.script.now (DebugsOver held given names command samples schedule)) c.in_ok-inputs.inputs c.from_residual-in_err-script.result c.in_ok-inputs.ensures
    (λ named. inl (fails_with c.from_residual-in_err-script.result c.in_err-script.field-0.0 (IsUnread c.args.named.script.now) c.from_residual-in_err-script.ensures.1 c.in_err-script.ensures))

pub returns : goal.returns
returns g c =
    let held = g.D.Disk.bytes_of c.args.disk.now in
    let sources = source_names c.args.named.sources in
    let names = assembled_in sources in
    inputs_read held sources c.args.named.files (λ given command samples schedule. AfterNamed held c.args.named.script.now (DebugsOver held given names command samples schedule)) c.in_ok-inputs.inputs c.work_over.result c.in_ok-inputs.ensures
    (λ named. inr (
      _,
      c.in_ok-script.ensures,
      debugs_over held _ names _ _ _ _ _ _ _ _ _ c.work_over.result (ap (λ xs. map string_bytes xs) c.as_slice.ensures.value ∙ named)
          c.as_str.ensures.value c.as_str-2.ensures.value c.as_str-3.ensures.value c.as_str-4.ensures.value c.work_over.ensures,
    ))
