use Rattle.c25_moving.proofs.OldTexts.{as_kept, as_read}
use Rattle.c25_moving.proofs.moving.is_text_of.Goals as goal

pub returns-in-Some : goal.returns-in-Some
returns-in-Some c = as_read c.args.file.now _ c.as_str.result.now c.args.text.now c.eq.result c.in-Some.is c.as_str.ensures.value c.eq.ensures

pub returns-in-None : goal.returns-in-None
returns-in-None c = as_kept c.args.file.now c.as_str-in-None.result.now c.args.text.now c.eq-in-None.result c.in-None.is c.as_str-in-None.ensures.value c.eq-in-None.ensures
