use Rattle.std.proofs.Common.{inl, inr, refl}
use Rattle.c25_options.specs.Task.{text_of}
use Rattle.c25_inputs.specs.Files.{IsUnreadOptional}
use Rattle.c25_inputs.proofs.Fails.{fails_with}
use Rattle.c25_inputs.proofs.sources.texts_beside.Goals as goal

pub returns-in_err-command : goal.returns-in_err-command
returns-in_err-command g c =
    inl (fails_with c.from_residual.result c.in_err-command.field-0.0 (IsUnreadOptional (text_of c.args.files.command)) c.from_residual.ensures.1 c.in_err-command.ensures)

pub returns-in_err-samples : goal.returns-in_err-samples
returns-in_err-samples g c =
    inr (
      _,
      c.in_ok-command.ensures,
      inl (fails_with c.from_residual-in_err-samples.result c.in_err-samples.field-0.0 (IsUnreadOptional (text_of c.args.files.samples)) c.from_residual-in_err-samples.ensures.1 c.in_err-samples.ensures),
    )

pub returns-in_err-schedule : goal.returns-in_err-schedule
returns-in_err-schedule g c =
    inr (
      _,
      c.in_ok-command.ensures,
      inr (
        _,
        c.in_ok-samples.ensures,
        inl (fails_with c.from_residual-in_err-schedule.result c.in_err-schedule.field-0.0 (IsUnreadOptional (text_of c.args.files.schedule)) c.from_residual-in_err-schedule.ensures.1 c.in_err-schedule.ensures),
      ),
    )

pub returns : goal.returns
returns g c = inr (_, c.in_ok-command.ensures, inr (_, c.in_ok-samples.ensures, inr (_, c.in_ok-schedule.ensures, (refl, refl, refl))))
