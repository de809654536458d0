use Rattle.std.proofs.Common.{arith}
use Rattle.c25_board.specs.Board.{entries, state, steps}
use Rattle.c25_run_ends.proofs.Stood.{stopped_first}
use Rattle.c25_run_ends.proofs.note.done.Goals as goal

pub returns-in-None-clause-comes : goal.returns-in-None-clause-comes
returns-in-None-clause-comes c =
    λ known.
    stopped_first (entries c.args.board.now) (steps c.args.board.now) c.args.n (steps c.watched.new.board) (state c.args.board.now) (state c.watched.new.board) c.args.requests c.requires known
    c.in_ok-requests.field-0 c.args.n c.in-None.is (omega arith) c.in_ok-requests.ensures.watches
