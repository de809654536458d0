use Rattle.std.proofs.Common.{◌≡◌, ◌-◌, ◌∙◌, ℕ, sym, ap, subst}
use Rattle.c25_board.specs.Board.{entries, state, steps}
use Rattle.c25_prompt.specs.Back.{CanReach}
use Rattle.c25_prompt.specs.Point.{point_of}
use Rattle.c25_prompt.proofs.BackAgain.{can_reach}
use Rattle.c25_prompt.proofs.Rewound.{can_reach_fewer, told_back}
use Rattle.c25_prompt.proofs.rewinding.answer_back_to.Goals as goal

pub last_stop-requires : goal.last_stop-requires
last_stop-requires g c =
    let old = c.args.board.now in
    let schedule = g.B.Start.schedule c.args.start.now in
    let first = g.B.Start.first c.args.start.now in
    let back : c.saturating_sub.result ≡ steps old - 1 = c.saturating_sub.ensures ∙ ap (λ (k : ℕ). k - 1) c.steps.ensures in
    subst (λ (k : ℕ). CanReach schedule k first) (sym back) (can_reach schedule (entries old) first (state old) (steps old) 1 c.requires)

pub board_after-requires : goal.board_after-requires
board_after-requires g c =
    let old = c.args.board.now in
    let schedule = g.B.Start.schedule c.args.start.now in
    let first = g.B.Start.first c.args.start.now in
    let back : c.saturating_sub.result ≡ steps old - 1 = c.saturating_sub.ensures ∙ ap (λ (k : ℕ). k - 1) c.steps.ensures in
    let can = subst (λ (k : ℕ). CanReach schedule k first) (sym back) (can_reach schedule (entries old) first (state old) (steps old) 1 c.requires) in
    can_reach_fewer schedule first c.in_ok-last.last.steps c.saturating_sub.result c.in_ok-last.ensures.1.before can

pub returns-clause-answer : goal.returns-clause-answer
returns-clause-answer g c =
    let old = c.args.board.now in
    let new = c.in_ok-board.field-0 in
    let schedule = g.B.Start.schedule c.args.start.now in
    let first = g.B.Start.first c.args.start.now in
    let back : c.saturating_sub.result ≡ steps old - 1 = c.saturating_sub.ensures ∙ ap (λ (k : ℕ). k - 1) c.steps.ensures in
    told_back c.words_end_once.ensures schedule (entries old) first (point_of old c.args.stops.now) c.saturating_sub.result c.in_ok-last.last (steps new) (state new) c.ended_line.result c.requires.0 back c.in_ok-last.ensures
    c.in_ok-board.ensures.state c.in_ok-board.ensures.steps c.ended_line.ensures
