use Rattle.std.proofs.Common.{◌∙◌, ap, sym, reverse, List}
use Rattle.std.proofs.lemmas.List.{take_all}
use Rattle.c25_expr.specs.declared.builder.Frame.{Frame}
use Rattle.c25_expr.proofs.Frames.{nested, nesting_woven}
use Rattle.c25_expr.proofs.builder.Builder.nesting.Goals as goal

pub returns : goal.returns
returns c =
    c.loop-frame.invariant.0 ∙ ap (λ (fs : List Frame). nested (reverse fs)) (take_all c.loop-frame.frame-index c.deref-frame-items.result.now c.loop-frame-test.false ∙ c.deref-frame-items.ensures.value)
    ∙ sym (nesting_woven (reverse c.args.self.now.frames.items) _)
