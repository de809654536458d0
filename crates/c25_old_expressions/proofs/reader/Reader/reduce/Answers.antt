use Rattle.std.proofs.Common.{sym, ap, ◌∙◌, ◌-◌, List, length, reverse, Some, slice_get, arith}
use Rattle.c25_expr.proofs.Lasts.{reverse_popped, reverse_pushed}
use Rattle.c25_old_expressions.specs.Reader.{item_of}
use Rattle.c25_old_expressions.specs.declared.reader.Frame.{Frame}
use Rattle.c25_old_expressions.proofs.Steps.{reduced_more}
use Rattle.c25_old_expressions.proofs.reader.Reader.reduce.Goals as goal

pub loop-operator-preserved : goal.loop-operator-preserved
loop-operator-preserved c =
    let op = c.in-Some-After.operator in
    let old = c.loop-operator.self in
    let last = ap (λ (xs : List Frame). slice_get xs (length xs - 1)) (sym c.deref.ensures.value) ∙ sym c.last.ensures.value ∙ sym c.in-Some-After.ensures ∙ ap (λ (f : Frame). Some f) c.in-Some-After.field-0-is in (
      reduced_more c.args.level op (reverse old.frames.items) (reverse c.pop.new.self.items) _ _ (omega (arith, c.level_of.ensures, c.if-level_of-level.false))
          (reverse_popped old.frames.items c.pop.new.self.items _ c.pop.result _ (ap (λ (xs : List Frame). length xs) (sym c.deref.ensures.value) ∙ c.deref.ensures.len) last c.pop.ensures.value c.pop.ensures.items)
          (reverse_pushed item_of old.items.items c.push.new.self.items _ c.in_ok-push.ensures.items)
          ∙ c.loop-operator.invariant.0,
      c.loop-operator.invariant.1,
    )
