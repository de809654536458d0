use Rattle.std.proofs.Common.{ℕ, sym, subst}
use Rattle.c25_board.specs.Board.{entries, state, steps}
use Rattle.c25_prompt.specs.Back.{CanReach}
use Rattle.c25_prompt.proofs.Rewound.{can_reach_here}
use Rattle.c25_prompt.proofs.session.Prompt.answer.Goals as goal

pub answer_hits-requires : goal.answer_hits-requires
answer_hits-requires g c =
    let board = c.args.self.now.board in
    let schedule = g.B.Start.schedule c.args.self.now.start.now in
    let first = g.B.Start.first c.args.self.now.start.now in
    subst (λ (k : ℕ). CanReach schedule k first) (sym c.steps.ensures) (can_reach_here schedule (entries board) first (state board) (steps board) c.requires.reached)

pub answer_outputs-requires : goal.answer_outputs-requires
answer_outputs-requires g c =
    let board = c.args.self.now.board in
    let schedule = g.B.Start.schedule c.args.self.now.start.now in
    let first = g.B.Start.first c.args.self.now.start.now in
    subst (λ (k : ℕ). CanReach schedule k first) (sym c.steps-in-Outputs.ensures) (can_reach_here schedule (entries board) first (state board) (steps board) c.requires.reached)

pub answer_trace-requires : goal.answer_trace-requires
answer_trace-requires g c =
    let board = c.args.self.now.board in
    let schedule = g.B.Start.schedule c.args.self.now.start.now in
    let first = g.B.Start.first c.args.self.now.start.now in
    subst (λ (k : ℕ). CanReach schedule k first) (sym c.steps-in-Trace.ensures) (can_reach_here schedule (entries board) first (state board) (steps board) c.requires.reached)
