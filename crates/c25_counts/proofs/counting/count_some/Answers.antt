use Rattle.c25_board.specs.Board.{signals, state, steps}
use Rattle.c25_counts.proofs.Tally.{counted_on, seen_more, seen_within}
use Rattle.c25_counts.proofs.counting.count_some.Goals as goal

pub returns-clause-counted : goal.returns-clause-counted
returns-clause-counted c =
    let old = c.args.board.now in
    let new = c.run_observed-halted.new.self in
    λ s branches from.
    counted_on (signals old) s branches (steps old) (state old) c.args.counts.now from c.requires.settled c.args.most (steps new) old.devices.sink.failures new.devices.sink.failures _ (state new) c.run_observed-halted.new.observer c.settle.new.self
    c.run_observed-halted.result c.requires.room c.pc-at.ensures (c.settle.ensures.passes, c.settle.ensures.acts, c.settle.ensures.ends, c.settle.ensures.settled) c.run_observed-halted.ensures.run

pub returns-clause-within : goal.returns-clause-within
returns-clause-within c =
    let old = c.args.board.now in
    let new = c.run_observed-halted.new.self in
    seen_within (signals old) (steps old) c.args.most (state old) c.args.counts.now c.run_observed-halted.result (steps new) (state new) c.run_observed-halted.new.observer old.devices.sink.failures new.devices.sink.failures c.run_observed-halted.ensures.run

pub returns-clause-more : goal.returns-clause-more
returns-clause-more c =
    let old = c.args.board.now in
    let new = c.run_observed-halted.new.self in
    λ more.
    seen_more (signals old) (steps old) c.args.most (state old) c.args.counts.now c.run_observed-halted.result (steps new) (state new) c.run_observed-halted.new.observer old.devices.sink.failures new.devices.sink.failures more c.run_observed-halted.ensures.run
