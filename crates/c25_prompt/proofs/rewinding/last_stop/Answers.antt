use Rattle.std.proofs.Common.{◌≡◌, ◌-◌, true, false, refl, sym, arith, rules}
use Rattle.c25_board.specs.Board.{entries, state, steps}
use Rattle.c25_prompt.specs.Runs.{may_go_on}
use Rattle.c25_prompt.proofs.Rewound.{all_turned, begun, finished, turned}
use Rattle.c25_prompt.proofs.rewinding.last_stop.Goals as goal

pub loop-turn-init : goal.loop-turn-init
loop-turn-init g c =
    let board = c.in_ok-board.board in
    let made = c.in_ok-board.ensures in
    let none = made.steps in
    record {
      on = begun (g.B.Start.schedule c.args.start.now) (entries board) (g.B.Start.first c.args.start.now) (state board) (steps board) made.schedule made.steps made.state;
      at = sym made.steps;
      stops = made.steps;
      turn = omega arith;
      within = omega (arith, none);
    }

pub returns-then-may_go_on : goal.returns-then-may_go_on
returns-then-may_go_on g c =
    let i = c.loop-turn.invariant in
    let now = c.loop-turn.board in
    let new = c.run_on.new.board in
    let stops = c.args.stops.now in
    let goes_on : may_go_on c.in_ok-ended.ended ≡ true = search rules in
    finished c.words_end_once.ensures (g.B.Start.schedule c.args.start.now) (entries now) stops.breakpoints stops.watches (g.B.Start.first c.args.start.now) c.args.n (c.args.n - steps now) (steps now) (steps new) (state now) (state new)
    i.on c.requires i.within refl c.in_ok-ended.ended c.in_ok-ended.ensures.run c.loop-turn.last i.at i.stops goes_on

pub loop-turn-preserved : goal.loop-turn-preserved
loop-turn-preserved g c =
    let i = c.loop-turn.invariant in
    let now = c.loop-turn.board in
    let new = c.run_on.new.board in
    let stops = c.args.stops.now in
    let last : may_go_on c.in_ok-ended.ended ≡ false = search rules in
    let turn = turned c.words_end_once.ensures (g.B.Start.schedule c.args.start.now) (entries now) stops.breakpoints stops.watches (g.B.Start.first c.args.start.now) c.args.n (c.args.n - steps now) (steps now) (steps new) (state now) (state new)
    i.on c.requires i.within refl c.in_ok-ended.ended c.in_ok-ended.ensures.run (entries new) c.run_on.ensures.schedule last in
    let before = i.turn in
    let more = turn.more in
    record {
      on = turn.on;
      at = search rules;
      stops = turn.stops;
      turn = omega (arith, before, more);
      within = turn.within;
    }

pub returns : goal.returns
returns g c =
    let i = c.loop-turn.invariant in
    let board = c.loop-turn.board in
    let turn = i.turn in
    let within = i.within in
    let all : steps board ≡ c.args.n = omega (arith, turn, within) in
    all_turned (g.B.Start.schedule c.args.start.now) (entries board) c.args.stops.now.breakpoints c.args.stops.now.watches (g.B.Start.first c.args.start.now) c.args.n (steps board) (state board) c.loop-turn.last i.on all i.at i.stops
