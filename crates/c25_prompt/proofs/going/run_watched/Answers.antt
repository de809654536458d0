use Rattle.std.proofs.Common.{◌≡◌, ℕ, Bool, Option, refl, rules, subst, sym}
use Rattle.std.specs.Prelude.{◌||◌}
use Rattle.c25_board.specs.Board.{signals, state, steps}
use Rattle.c25_meaning_processor.specs.Goes.{is_met}
use Rattle.c25_meaning_processor.specs.State.{State}
use Rattle.c25_prompt.specs.Seen.{addresses, are_changed}
use Rattle.c25_prompt.specs.declared.watched.Watching.{Watching}
use Rattle.c25_prompt.proofs.Went.{run_seen, seen_taken}
use Rattle.c25_prompt.proofs.going.run_watched.Goals as goal

abbrev same : Watching → Option ℕ → Watching → Type 0
same o acts p = p ≡ o

abbrev ends : Watching → State → Bool
ends o s = are_changed s.world.words o.watched.now || is_met o.breakpoints.now s

pub ended_of-requires : goal.ended_of-requires
ended_of-requires c =
    let old = c.args.board.now in
    let new = c.run_observed-halted.new.self in
    seen_taken same ends (signals old) (steps old) c.args.n (steps new) old.devices.sink.failures new.devices.sink.failures (state old) (state new) _ _ c.run_observed-halted.result c.run_observed-halted.ensures.run (search rules)

pub returns-in-None-clause-run : goal.returns-in-None-clause-run
returns-in-None-clause-run c =
    let old = c.args.board.now in
    let new = c.run_observed-halted.new.self in
    let run =
    run_seen same ends (λ o p acts kept. kept) _ c.args.breakpoints.now c.args.watched.now (λ s. refl) (signals old) (steps old) (state old) c.requires.seen c.args.n (steps new) old.devices.sink.failures new.devices.sink.failures (state new) _
    c.run_observed-halted.result (search rules) c.run_observed-halted.ensures.run in
    search rules
