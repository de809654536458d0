use Rattle.c25_moving.proofs.BssTexts.{cut_there}
use Rattle.c25_moving.proofs.bss_text.cut.Goals as goal

pub returns : goal.returns
returns c = cut_there c.args.other.now c.args.text.now c.split_once.result c.split_once.ensures.cases
