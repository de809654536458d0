use Rattle.std.proofs.Common.{◌≡◌, ℕ, Bool, Option, refl}
use Rattle.c25_meaning_processor.specs.Goes.{is_met}
use Rattle.c25_meaning_processor.specs.State.{State}
use Rattle.c25_board.specs.Board.{signals, state, steps}
use Rattle.c25_board.specs.declared.run_to.AtBreakpoints.{AtBreakpoints}
use Rattle.c25_board.proofs.SeenSteps.{seen_to}
use Rattle.c25_board.proofs.board.Board.run_to.Goals as goal

abbrev same : AtBreakpoints → Option ℕ → AtBreakpoints → Type 0
same o acts p = p ≡ o

abbrev ends : AtBreakpoints → State → Bool
ends o s = is_met o.breaks.now s

pub returns-clause-run : goal.returns-clause-run
returns-clause-run g c =
    let old = c.args.self.now in
    let new = c.run_observed.new.self in
    seen_to same ends (λ o p acts kept. kept) c.args.breaks.now _ (λ s. refl) (signals old) (steps old) c.args.n (steps new) (g.S.Sink.failures old.devices.sink) (g.S.Sink.failures new.devices.sink) (state old) (state new) _
    c.run_observed.result c.run_observed.ensures.run
