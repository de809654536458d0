use Rattle.std.proofs.Common.{arith}
use Rattle.c25_meaning_linking.specs.Command.{IsRange}
use Rattle.c25_meaning_linking.specs.GoodMap.{NoneFits}
use Rattle.c25_place.specs.View.{range_view}
use Rattle.c25_place.proofs.Fits.{first_fit_is}
use Rattle.c25_place.proofs.Listed.{unmapped, all_more, all_whole}
use Rattle.c25_place.proofs.placement.first_fit.Goals as goal

pub least_fit-requires-clause-range : goal.least_fit-requires-clause-range
least_fit-requires-clause-range c = unmapped IsRange range_view c.args.ranges.now c.requires.ranges c.loop-range.range-index _ c.loop-range-test.true

pub returns-in-Some-clause-fit : goal.returns-in-Some-clause-fit
returns-in-Some-clause-fit c = λ page places blocks k f.
    first_fit_is page c.args.size c.in-Some.base blocks c.args.ranges.now c.loop-range.range-index _ places c.loop-range-test.true (c.loop-range.invariant page places blocks k f) (c.in-Some.ensures.fit page places blocks k f)

pub loop-range-preserved : goal.loop-range-preserved
loop-range-preserved c = λ page places blocks k f.
    all_more (NoneFits page c.args.size blocks places) range_view c.args.ranges.now c.loop-range.range-index _ c.loop-range-test.true (c.loop-range.invariant page places blocks k f) (c.in-None.ensures.fit page places blocks k f)

pub returns-clause-fit : goal.returns-clause-fit
returns-clause-fit c = λ page places blocks k f. all_whole (NoneFits page c.args.size blocks places) range_view c.args.ranges.now c.loop-range.range-index (omega (arith, c.loop-range-test.false)) (c.loop-range.invariant page places blocks k f)
