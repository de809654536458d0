use Rattle.std.proofs.Common.{ap}
use Rattle.c25_place.specs.View.{wanted_view, range_view, ranges_view}
use Rattle.c25_place.proofs.Fits.{based_at, based_in, is_first, not_at}
use Rattle.c25_place.proofs.placement.base_of.Goals as goal

pub base_in-requires : goal.base_in-requires
base_in-requires c = record {
  first = (is_first c.args.ranges.now c.in-Some.first.now c.in-Some.ensures.value).is c.requires.ranges;
  sized = c.requires.sized;
  paged = c.requires.paged;
  ranges = c.requires.ranges;
}

pub returns-in-At-clause-base : goal.returns-in-At-clause-base
returns-in-At-clause-base c = λ page places blocks k f.
    let first = is_first c.args.ranges.now c.in-Some.first.now c.in-Some.ensures.value in
    based_at page c.args.size c.in-At.address blocks (wanted_view c.args.wanted) (ranges_view c.args.ranges.now) places c.base_at.result (ap wanted_view c.in-At.is) first.some (c.base_at.ensures.base page places blocks k f)

pub returns-in_default-wanted : goal.returns-in_default-wanted
returns-in_default-wanted c = record {
  base = λ page places blocks k f.
      based_in page c.args.size blocks (wanted_view c.args.wanted) (range_view c.in-Some.first.now) (ranges_view c.args.ranges.now) places c.base_in.result (not_at c.args.wanted c.in_default-wanted.not-At)
      (is_first c.args.ranges.now c.in-Some.first.now c.in-Some.ensures.value).only (c.base_in.ensures.base page places blocks k f);
  within = c.base_in.ensures.within;
}
