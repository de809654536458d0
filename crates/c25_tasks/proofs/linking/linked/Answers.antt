use Rattle.std.proofs.Common.{◌∙◌, ap, inl, inr, sym}
use Rattle.std.specs.Prelude.{Ok}
use Rattle.c25_options.specs.Task.{texts_of}
use Rattle.c25_inputs.specs.Files.{IsUnread}
use Rattle.c25_inputs.specs.Objects.{IsUnreadAmong, modules_in, objects_of}
use Rattle.c25_inputs.proofs.Fails.{fails_with}
use Rattle.c25_tasks.proofs.Joined.{link_told, objects_told}
use Rattle.c25_tasks.proofs.linking.linked.Goals as goal

pub returns-in_err-command : goal.returns-in_err-command
returns-in_err-command g c = inl (fails_with c.from_residual.result c.in_err-command.field-0.0 (IsUnread c.args.command.now) c.from_residual.ensures.1 c.in_err-command.ensures)

pub returns-in_err-objects : goal.returns-in_err-objects
returns-in_err-objects g c =
    inr (
      _,
      c.in_ok-command.ensures,
      inl (fails_with c.from_residual-in_err-objects.result c.in_err-objects.field-0.0 (IsUnreadAmong (g.D.Disk.bytes_of c.args.disk.now) (texts_of c.args.objects.now)) c.from_residual-in_err-objects.ensures.1 c.in_err-objects.ensures),
    )

pub returns-in_err-modules : goal.returns-in_err-modules
returns-in_err-modules g c =
    inr (
      _,
      c.in_ok-command.ensures,
      inr (
        _,
        c.in_ok-objects.ensures,
        objects_told _ _ _ c.from_residual-in_err-modules.result c.in_err-modules.field-0.0 (ap objects_of c.as_slice.ensures.value) c.in_err-modules.ensures c.from_residual-in_err-modules.ensures.1,
      ),
    )

pub returns-in_err-linked : goal.returns-in_err-linked
returns-in_err-linked g c =
    let read = ap (λ objects. modules_in (objects_of objects)) (sym c.as_slice.ensures.value) ∙ c.in_ok-modules.ensures ∙ ap Ok (sym c.as_slice-2.ensures.value) in
    inr (
      _,
      c.in_ok-command.ensures,
      inr (
        _,
        c.in_ok-objects.ensures,
        link_told _ _ _ _ c.from_residual-in_err-linked.result c.in_err-linked.field-0.0 read c.as_str.ensures.value c.in_err-linked.ensures c.from_residual-in_err-linked.ensures.1,
      ),
    )
