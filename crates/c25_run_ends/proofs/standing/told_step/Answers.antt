use Rattle.std.proofs.Common.{◌∙◌, suc, ap, arith, string_bytes}
use Rattle.c25_board.specs.Board.{entries, state, steps}
use Rattle.c25_run_ends.specs.Texts.{before_text}
use Rattle.c25_run_ends.proofs.Stood.{arrived, come_first, stopped_first, stopped_then}
use Rattle.c25_run_ends.proofs.standing.told_step.Goals as goal

pub returns-in_default-clause-arrives : goal.returns-in_default-clause-arrives
returns-in_default-clause-arrives c =
    λ known.
    stopped_first (entries c.args.board.now) (steps c.args.board.now) c.args.n (steps c.watched.new.board) (state c.args.board.now) (state c.watched.new.board) c.args.requests c.requires.first known
    c.in_ok-after.after (suc c.args.n) c.in_default.is (omega arith) c.in_ok-after.ensures.watches

pub returns-in_default-last-clause-arrives : goal.returns-in_default-last-clause-arrives
returns-in_default-last-clause-arrives c =
    λ known.
    stopped_then (entries c.args.board.now) (entries c.watched.new.board) c.args.n (steps c.watched.new.board) (steps c.watched-2.new.board) (state c.args.board.now) (state c.watched.new.board) (state c.watched-2.new.board)
    c.args.requests c.in-Some.requests c.in_ok-after.ensures.schedule
    (come_first (entries c.args.board.now) (steps c.args.board.now) c.args.n (steps c.watched.new.board) (state c.args.board.now) (state c.watched.new.board) c.args.requests c.requires.first known
    c.in_ok-after.after c.in-Some.requests c.in-Some.is c.in_ok-after.ensures.watches)
    c.in_ok-last.last c.in_default-last.is c.in_ok-last.ensures.watches

pub returns-clause-arrives : goal.returns-clause-arrives
returns-clause-arrives c =
    λ known.
    arrived (entries c.args.board.now) (entries c.watched.new.board) c.args.n (steps c.watched.new.board) (steps c.watched-2.new.board) (state c.args.board.now) (state c.watched.new.board) (state c.watched-2.new.board)
    c.args.requests c.in-Some.requests c.in_ok-after.ensures.schedule
    (come_first (entries c.args.board.now) (steps c.args.board.now) c.args.n (steps c.watched.new.board) (state c.args.board.now) (state c.watched.new.board) c.args.requests c.requires.first known
    c.in_ok-after.after c.in-Some.requests c.in-Some.is c.in_ok-after.ensures.watches)
    c.args.image.now c.in_ok-last.last c.in-Some-last.requests (string_bytes c.in_ok-place.place) (string_bytes c.in_ok-text.text) c.in-Some-last.is c.in_ok-last.ensures.watches
    c.in_ok-place.ensures (c.in_ok-text.ensures ∙ ap before_text c.as_str.ensures.value)
