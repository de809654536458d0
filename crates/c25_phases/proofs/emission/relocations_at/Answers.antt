use Rattle.std.proofs.Common.{[], ◌∷◌, ◌++◌, ap, ◌∙◌}
use Rattle.c25_meaning_assembly.specs.Addresses.{relocation_at}
use Rattle.c25_phases.proofs.Gathered.{one_pushed}
use Rattle.c25_phases.proofs.emission.relocations_at.Goals as goal

pub loop-address-preserved : goal.loop-address-preserved
loop-address-preserved c =
    let before = c.loop-address.relocations.items in
    one_pushed (relocation_at c.args.target c.args.section c.args.offset) c.args.addresses.now c.loop-address.address-index _ before _ _ c.loop-address-test.true
    (c.in_ok-push.ensures.items ∙ ap (λ r. before ++ r ∷ []) c.relocation_at.ensures)
    c.loop-address.invariant
