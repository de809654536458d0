use Rattle.std.proofs.Common.{◌∙◌, ℕ, sym, ap, subst}
use Rattle.c25_board.specs.Board.{entries, state, steps}
use Rattle.c25_meaning_processor.specs.Run.{Reaches}
use Rattle.c25_meaning_processor.specs.Signals.{signals_of}
use Rattle.c25_meaning_processor.specs.State.{State}
use Rattle.c25_meaning_processor.specs.WordStep.{WordStep}
use Rattle.c25_prompt.specs.Back.{CanReach}
use Rattle.c25_prompt.proofs.Rewound.{can_reach_here, same_again}
use Rattle.c25_unused_inputs.specs.Ports.{counts_of}
use Rattle.c25_prompt.proofs.inputs.samples_left.Goals as goal

pub board_after-requires : goal.board_after-requires
board_after-requires g c =
    let board = c.args.board.now in
    let schedule = g.B.Start.schedule c.args.start.now in
    let first = g.B.Start.first c.args.start.now in
    subst (λ (k : ℕ). CanReach schedule k first) (sym c.steps.ensures) (can_reach_here schedule (entries board) first (state board) (steps board) c.requires)

pub returns : goal.returns
returns g c =
    let board = c.args.board.now in
    let again = c.in_ok-again.again in
    let schedule = g.B.Start.schedule c.args.start.now in
    let first = g.B.Start.first c.args.start.now in
    let reached = subst (λ (k : ℕ). Reaches WordStep (signals_of schedule) 0 k first (state again)) c.steps.ensures c.in_ok-again.ensures.state in
    let same = same_again c.words_end_once.ensures schedule (entries board) first (state board) (state again) (steps board) c.requires reached in
    c.in_ok-left.ensures ∙ ap (λ (s : State). counts_of s.world.samples) same
