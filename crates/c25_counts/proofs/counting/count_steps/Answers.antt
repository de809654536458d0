use Rattle.std.proofs.Common.{◌≡◌, ◌∙◌, ◌-◌, ℕ, true, false, refl, sym, subst, arith, rules}
use Rattle.c25_board.specs.Board.{entries, signals, state, steps}
use Rattle.c25_counts.specs.Seen.{AreCounts, is_over}
use Rattle.c25_counts.proofs.Tally.{all_counted, none_counted, run_counted, still_counted, went_on}
use Rattle.c25_counts.proofs.counting.count_steps.Goals as goal

pub loop-done-init : goal.loop-done-init
loop-done-init c =
    let old = c.args.board.now in
    let counts = c.args.counts.now in
    let first = c.requires.first in
    record {
      at = sym first;
      within = omega (arith, first);
      schedule = refl;
      settled = c.requires.settled;
      counted = λ branches at. subst (λ (k : ℕ). AreCounts (signals old) k (state old) branches counts (state old)) (sym first) (none_counted (signals old) (state old) branches counts c.requires.acts c.requires.passes c.requires.settled at);
    }

pub returns-then-is_over-clause-counted : goal.returns-then-is_over-clause-counted
returns-then-is_over-clause-counted c =
    let i = c.loop-done.invariant in
    let old = c.args.board.now in
    let now = c.loop-done.board in
    let new = c.count_some-halted.new.board in
    let most = c.args.n - c.loop-done.done in
    let over : is_over c.count_some-halted.result ≡ true = search rules in
    let here = i.at in
    let within = i.within in
    λ branches at taken.
    let on = went_on (entries old) (entries now) i.schedule (state old) branches (steps now) most (steps new) now.devices.sink.failures new.devices.sink.failures c.loop-done.counts c.count_some-halted.new.counts (state now) (state new) c.count_some-halted.result
    c.count_some-halted.ensures.counted (i.counted branches at) in
    run_counted (signals old) (state old) branches c.counts_are_of_runs.ensures.words c.args.n (steps now) most (steps new) now.devices.sink.failures new.devices.sink.failures (state new) c.count_some-halted.new.counts c.count_some-halted.result (omega (arith, here, within)) taken over c.count_some-halted.ensures.settled on

pub loop-done-preserved : goal.loop-done-preserved
loop-done-preserved c =
    let i = c.loop-done.invariant in
    let old = c.args.board.now in
    let now = c.loop-done.board in
    let new = c.count_some-halted.new.board in
    let most = c.args.n - c.loop-done.done in
    let more : is_over c.count_some-halted.result ≡ false = search rules in
    let at = i.at in
    let within = i.within in
    let upto = c.count_some-halted.ensures.within in
    record {
      at = search rules;
      within = omega (arith, at, within, upto);
      schedule = c.count_some-halted.ensures.schedule ∙ i.schedule;
      settled = c.count_some-halted.ensures.settled;
      counted = λ branches ends.
          still_counted (signals old) (steps now) most (steps new) now.devices.sink.failures new.devices.sink.failures (state old) (state new) branches c.count_some-halted.new.counts c.count_some-halted.result more
          (went_on (entries old) (entries now) i.schedule (state old) branches (steps now) most (steps new) now.devices.sink.failures new.devices.sink.failures c.loop-done.counts c.count_some-halted.new.counts (state now) (state new) c.count_some-halted.result
          c.count_some-halted.ensures.counted (i.counted branches ends));
    }

pub returns-clause-counted : goal.returns-clause-counted
returns-clause-counted c =
    let i = c.loop-done.invariant in
    let old = c.args.board.now in
    let now = c.loop-done.board in
    let at = i.at in
    let within = i.within in
    let all : steps now ≡ c.args.n = omega (arith, at, within) in
    λ branches ends taken. all_counted (signals old) (state old) branches c.counts_are_of_runs.ensures.words c.args.n (steps now) (state now) c.loop-done.counts all i.settled (i.counted branches ends)
