use Rattle.std.proofs.Common.{◌≡◌, ◌+◌, ◌∷◌, drop, ap, sym, ◌∙◌}
use Rattle.std.proofs.lemmas.List.{drop_more}
use Rattle.c25_layout.specs.declared.layout.Part.{Part}
use Rattle.c25_reach.specs.Reached.{parts_reach}
use Rattle.c25_reach.proofs.Sums.{next_part}
use Rattle.c25_reach.proofs.reach.reach_of.Goals as goal

pub loop-part-preserved : goal.loop-part-preserved
loop-part-preserved c =
    let parts = c.args.parts.now in
    let i = c.loop-part.part-index in
    let part = c.part-item.result in
    let rest : drop i parts ≡ part ∷ drop (i + 1) parts = drop_more parts i part c.loop-part-test.true ∙ ap (λ (p : Part). p ∷ drop (i + 1) parts) (sym c.part-item.is) in
    let next = next_part c.loop-part.reach c.with_rows-reach.result (parts_reach parts) part (drop (i + 1) parts) (drop i parts) c.deref.result.now rest c.deref.ensures.value c.with_rows-reach.ensures
    c.loop-part.invariant.counted c.loop-part.invariant.room in
    record { counted = next.0; room = next.1 }
