use Rattle.std.proofs.Common.{sym}
use Rattle.c25_suppositions.proofs.written.place_written.Goals as goal

pub returns : goal.returns
returns c = λ r small shown. c.place_of.ensures r (sym (c.page_of.ensures.page r small shown)) (sym (c.current_ar.ensures r small shown))
