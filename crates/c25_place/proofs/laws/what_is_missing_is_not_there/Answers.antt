use Rattle.c25_place.proofs.Lacking.{lacks_so}
use Rattle.c25_place.proofs.laws.what_is_missing_is_not_there.Goals as goal

pub returns : goal.returns
returns c = λ ranges r none. lacks_so ranges r.target r.page r.initialised none
