use Rattle.std.proofs.Common.{◌≡◌, ◌-◌}
use Rattle.c25_board.specs.Board.{entries, signals}
use Rattle.c25_prompt.specs.Point.{point_of}
use Rattle.c25_prompt.proofs.Next.{Finishes}
use Rattle.c25_prompt.proofs.over.answer_next.Given as goal

abbrev pub invariant-loop-done : goal.invariant-loop-done
invariant-loop-done l =
    record {
      schedule : entries l.board ≡ entries l.initial.board;
      finishes : Finishes (signals l.initial.board) l.n (point_of l.initial.board l.initial.stops) (l.n - l._done) (point_of l.board l.stops);
    }
