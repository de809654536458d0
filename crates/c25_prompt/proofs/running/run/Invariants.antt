use Rattle.std.proofs.Common.{◌≡◌, ◌≤◌, ◌+◌}
use Rattle.c25_board.specs.Board.{entries, signals}
use Rattle.c25_prompt.specs.Point.{point_of}
use Rattle.c25_prompt.proofs.Parts.{Finishes}
use Rattle.c25_prompt.proofs.running.run.Given as goal

abbrev pub invariant-loop-turn : goal.invariant-loop-turn
invariant-loop-turn l =
    record {
      schedule : entries l.board ≡ entries l.initial.board;
      few : l._turn + l.left ≤ l.n;
      finishes : Finishes (signals l.initial.board) l.goal l.n (point_of l.initial.board l.initial.stops) l.left (point_of l.board l.stops);
    }
