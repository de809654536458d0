use Rattle.std.proofs.Common.{◌≡◌, ◌-◌, ◌∙◌, ℕ, sym, ap, subst}
use Rattle.c25_board.specs.Board.{entries, state, steps}
use Rattle.c25_prompt.specs.Back.{CanReach}
use Rattle.c25_prompt.proofs.BackAgain.{can_reach}
use Rattle.c25_prompt.proofs.start.answer_back.Goals as goal

pub board_after-requires : goal.board_after-requires
board_after-requires g c =
    let old = c.args.board.now in
    let schedule = g.B.Start.schedule c.args.start.now in
    let first = g.B.Start.first c.args.start.now in
    let back : c.saturating_sub-steps.result ≡ steps old - c.args.n = c.saturating_sub-steps.ensures ∙ ap (λ (k : ℕ). k - c.args.n) c.steps.ensures in
    subst (λ (k : ℕ). CanReach schedule k first) (sym back) (can_reach schedule (entries old) first (state old) (steps old) c.args.n c.requires)
