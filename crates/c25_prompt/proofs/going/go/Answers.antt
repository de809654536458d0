use Rattle.std.proofs.Common.{◌≡◌, ◌∙◌, ℕ, List, [], ap, subst, sym, rules, tests}
use Rattle.std.proofs.lemmas.List.{nil_from_length}
use Rattle.std.specs.Prelude.{IfOk}
use Rattle.c25_board.specs.Board.{signals, state, steps}
use Rattle.c25_meaning_processor.specs.WordStep.{WordStep}
use Rattle.c25_prompt.specs.Runs.{Goes}
use Rattle.c25_prompt.specs.Seen.{seen}
use Rattle.c25_prompt.proofs.Went.{free_run, unwatched_run, watched_at, watched_seen}
use Rattle.c25_prompt.proofs.going.go.Goals as goal

pub run_watched-requires-clause-seen : goal.run_watched-requires-clause-seen
run_watched-requires-clause-seen c =
    let words = (state c.args.board.now).world.words in
    watched_seen c.deref.result.now c.args.watches.now words (c.deref.ensures.value ∙ c.in_ok-watched.ensures ∙ ap (λ (f : ℕ → ℕ). seen c.args.watches.now f) c.data.ensures.words)

pub returns-then-not-is_empty-clause-run : goal.returns-then-not-is_empty-clause-run
returns-then-not-is_empty-clause-run c =
    let old = c.args.board.now in
    let new = c.run_watched.new.board in
    let words = (state old).world.words in
    let at = watched_at c.deref.result.now c.args.watches.now words (c.deref.ensures.value ∙ c.in_ok-watched.ensures ∙ ap (λ (f : ℕ → ℕ). seen c.args.watches.now f) c.data.ensures.words) in
    subst (λ (ws : List ℕ). IfOk c.run_watched.result (λ ended. Goes WordStep (signals old) c.args.breakpoints.now ws (steps old) c.args.n (state old) ended (steps new) (state new))) at c.run_watched.ensures.run

pub returns-then-is_empty-clause-run : goal.returns-then-is_empty-clause-run
returns-then-is_empty-clause-run c =
    let old = c.args.board.now in
    let new = c.run_freely.new.board in
    let none : c.args.watches.now ≡ [] = nil_from_length c.args.watches.now (search (rules, tests)) in
    let free : c.args.breakpoints.now ≡ [] = sym c.as_slice.ensures ∙ nil_from_length c.as_slice.result.now (search (rules, tests)) in
    free_run (signals old) c.args.breakpoints.now c.args.watches.now (steps old) c.args.n (steps new) (state old) (state new) c.run_freely.result none free c.run_freely.ensures.run

pub returns-clause-run : goal.returns-clause-run
returns-clause-run c =
    let old = c.args.board.now in
    let new = c.run_to.new.board in
    let none : c.args.watches.now ≡ [] = nil_from_length c.args.watches.now (search (rules, tests)) in
    unwatched_run (signals old) c.args.breakpoints.now c.args.watches.now (steps old) c.args.n (steps new) (state old) (state new) c.run_to.result none c.run_to.ensures.run
