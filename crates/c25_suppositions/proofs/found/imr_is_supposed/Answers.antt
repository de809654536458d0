use Rattle.std.proofs.Common.{◌∙◌, ap}
use Rattle.c25_meaning_processor.specs.Memory.{Memory}
use Rattle.c25_suppositions.specs.Breaches.{lets_no_other}
use Rattle.c25_suppositions.proofs.found.imr_is_supposed.Goals as goal

pub returns : goal.returns
returns c = c.lets_no_other.ensures ∙ ap (λ (m : Memory). lets_no_other c.args.table.now.lines (m 4)) c.data.ensures.words
