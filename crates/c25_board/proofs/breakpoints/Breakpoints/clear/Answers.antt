use Rattle.std.proofs.Common.{◌≡◌, ◌∙◌, ap, subst, sym, rules, List, ℕ}
use Rattle.arrayvec.proofs.ArrayVecLemmas.{filter-from_retain}
use Rattle.c25_meaning_processor.specs.Set.{without_breakpoint}
use Rattle.c25_board.specs.Bits.{KnowsAll}
use Rattle.c25_board.proofs.Cleared.{knows_cleared}
use Rattle.c25_board.proofs.breakpoints.Breakpoints.clear.Goals as goal

pub invariant_of-self : goal.invariant_of-self
invariant_of-self c =
    let left : c.retain.new.self.items ≡ without_breakpoint c.self.inside.list.items c.args.address =
    filter-from_retain _ _ _ (λ x b f' y called. search rules) _ _ c.retain.ensures.filtered in
    subst (λ (breaks : List ℕ). KnowsAll breaks c.clear.new.self.words) (sym left)
    (knows_cleared c.self.inside.list.items c.self.inside.bits.words _ c.args.address c.self.invariant c.clear.ensures.same c.clear.ensures.others)

pub returns-clause-breakpoints : goal.returns-clause-breakpoints
returns-clause-breakpoints c =
    filter-from_retain _ _ _ (λ x b f' y called. search rules) _ _ c.retain.ensures.filtered
    ∙ ap (λ (breaks : List ℕ). without_breakpoint breaks c.args.address) c.self.view_is
