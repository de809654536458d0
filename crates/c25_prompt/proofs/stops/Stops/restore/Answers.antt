use Rattle.std.proofs.Common.{sym, ap, ◌∙◌}
use Rattle.c25_meaning_processor.specs.Set.{without_breakpoint}
use Rattle.c25_prompt.proofs.Restored.{cleared_again, set_again}
use Rattle.c25_prompt.proofs.stops.Stops.restore.Goals as goal

pub returns-then-was_set-clause-breakpoints : goal.returns-then-was_set-clause-breakpoints
returns-then-was_set-clause-breakpoints c breaks is before = before ∙ set_again c.args.address breaks (sym is ∙ c.if-was_set.true)

pub returns-clause-breakpoints : goal.returns-clause-breakpoints
returns-clause-breakpoints c breaks is before =
    c.clear.ensures.breakpoints ∙ ap (λ bs. without_breakpoint bs c.args.address) before ∙ cleared_again c.args.address breaks (sym is ∙ c.if-was_set.false)
