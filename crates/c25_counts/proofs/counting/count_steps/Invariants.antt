use Rattle.std.proofs.Common.{◌≡◌, ◌≤◌, ◌-◌, ℕ, List, None}
use Rattle.c25_board.specs.Board.{entries, signals, state, steps}
use Rattle.c25_counts.specs.Counting.{AreEnds}
use Rattle.c25_counts.specs.Seen.{AreCounts}
use Rattle.c25_counts.proofs.counting.count_steps.Given as goal

abbrev pub invariant-loop-done : goal.invariant-loop-done
invariant-loop-done l =
    record {
      at : l.done ≡ steps l.board;
      within : steps l.board ≤ l.n;
      schedule : entries l.board ≡ entries l.fn.board;
      settled : l.counts.last ≡ None;
      counted : (branches : List ℕ) → AreEnds branches l.fn.counts.ends.items → AreCounts (signals l.fn.board) (steps l.board) (state l.fn.board) branches l.counts (state l.board);
    }

abbrev pub decreases-loop-done : goal.decreases-loop-done
decreases-loop-done l = l.n - l.done
