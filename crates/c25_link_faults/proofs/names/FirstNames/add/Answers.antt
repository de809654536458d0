use Rattle.std.proofs.Common.{refl, sym, ◌∙◌}
use Rattle.c25_link_faults.proofs.First.{added_new, added_seen}
use Rattle.c25_link_faults.proofs.names.FirstNames.add.Goals as goal

pub returns-in_ok-push-clause-names : goal.returns-in_ok-push-clause-names
returns-in_ok-push-clause-names c = λ before added has.
    added_new c.args.self.now _ c.args.name before added has c.in_ok-insert.ensures.keys (sym c.if-branch.true ∙ c.in_ok-insert.ensures.added) c.in_ok-push.ensures.items

pub returns-else-branch-clause-names : goal.returns-else-branch-clause-names
returns-else-branch-clause-names c = λ before added has.
    added_seen c.args.self.now _ c.args.name before added has c.in_ok-insert.ensures.keys (sym c.if-branch.false ∙ c.in_ok-insert.ensures.added) refl
