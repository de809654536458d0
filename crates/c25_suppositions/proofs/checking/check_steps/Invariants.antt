use Rattle.std.proofs.Common.{◌≡◌, ◌-◌, ◌≤◌}
use Rattle.c25_board.specs.Board.{entries, signals, state, steps}
use Rattle.c25_meaning_pages.specs.Supposed.{AreSupposed}
use Rattle.c25_meaning_processor.specs.Run.{Reaches}
use Rattle.c25_meaning_processor.specs.WordStep.{WordStep}
use Rattle.c25_pages.specs.Program.{statements_of}
use Rattle.c25_pages.specs.Table.{knowledge_of}
use Rattle.c25_suppositions.proofs.checking.check_steps.Given as goal

abbrev pub invariant-loop-done : goal.invariant-loop-done
invariant-loop-done l =
    let old = l.initial.board in
    record {
      most : l.done ≤ l.n;
      count : steps l.board ≡ l.done;
      schedule : entries l.board ≡ entries old;
      failures : l.board.devices.sink.failures ≡ old.devices.sink.failures;
      reached : Reaches WordStep (signals old) 0 l.done (state old) (state l.board);
      supposed : AreSupposed (statements_of l.program) (knowledge_of l.table) (signals old) 0 l.done (state old);
    }

abbrev pub decreases-loop-done : goal.decreases-loop-done
decreases-loop-done l = l.n - l.done
