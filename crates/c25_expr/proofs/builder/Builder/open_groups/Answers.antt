use Rattle.std.proofs.Common.{◌∙◌, ap, sym, reverse, List}
use Rattle.std.proofs.lemmas.List.{take_all}
use Rattle.c25_expr.specs.declared.builder.Frame.{Frame}
use Rattle.c25_expr.proofs.Frames.{grouped, opens_woven}
use Rattle.c25_expr.proofs.builder.Builder.open_groups.Goals as goal

pub returns-clause-value : goal.returns-clause-value
returns-clause-value c =
    c.loop-frame.invariant.0 ∙ ap (λ (fs : List Frame). grouped (reverse fs)) (take_all c.loop-frame.frame-index c.deref-frame-items.result.now c.loop-frame-test.false ∙ c.deref-frame-items.ensures.value)
    ∙ sym (opens_woven (reverse c.args.self.now.frames.items) _)
