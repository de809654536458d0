use Rattle.c25_place.specs.View.{range_view}
use Rattle.c25_place.proofs.Fits.{least_fit, none_fits}
use Rattle.c25_place.proofs.placement.least_fit.Goals as goal

pub returns-in-Some-clause-fit : goal.returns-in-Some-clause-fit
returns-in-Some-clause-fit c = λ page places blocks k f. least_fit c.args.taken.now c.args.fits.now page c.args.size c.in-Some.base blocks places (range_view c.args.range.now) k f c.requires.range c.requires.some c.in-Some.ensures

pub returns-in-None-clause-fit : goal.returns-in-None-clause-fit
returns-in-None-clause-fit c = λ page places blocks k f. none_fits c.args.taken.now c.args.fits.now page c.args.size blocks places (range_view c.args.range.now) k f c.requires.range c.requires.some c.in-None.ensures
