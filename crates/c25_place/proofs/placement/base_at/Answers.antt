use Rattle.std.proofs.Common.{arith, sym, refl}
use Rattle.c25_place.specs.View.{ranges_view}
use Rattle.c25_place.proofs.Fits.{inside_words, free_of}
use Rattle.c25_place.proofs.placement.base_at.Goals as goal

pub overflow_cast-size : goal.overflow_cast-size
overflow_cast-size c = let w = inside_words c.args.address c.args.size (ranges_view c.args.ranges.now) c.requires.ranges (c.if-not-may_stand.ensures.inside refl) in omega (arith, w.last)

pub overflow_add-address : goal.overflow_add-address
overflow_add-address c = let w = inside_words c.args.address c.args.size (ranges_view c.args.ranges.now) c.requires.ranges (c.if-not-may_stand.ensures.inside refl) in omega (arith, w.last)

pub any_taken-requires : goal.any_taken-requires
any_taken-requires c =
    let w = inside_words c.args.address c.args.size (ranges_view c.args.ranges.now) c.requires.ranges (c.if-not-may_stand.ensures.inside refl) in omega (arith, w.last, c.requires.sized)

pub returns-clause-base : goal.returns-clause-base
returns-clause-base c = λ page places blocks k f.
    let w = inside_words c.args.address c.args.size (ranges_view c.args.ranges.now) c.requires.ranges (c.if-not-may_stand.ensures.inside refl) in
    (refl, sym (c.if-not-may_stand.ensures.stands blocks f), free_of c.args.taken.now page c.args.address c.args.size places k w.last (λ word cov. c.if-any_taken.ensures.none refl word cov.from cov.upto))

pub returns-clause-within : goal.returns-clause-within
returns-clause-within c = inside_words c.args.address c.args.size (ranges_view c.args.ranges.now) c.requires.ranges (c.if-not-may_stand.ensures.inside refl)
