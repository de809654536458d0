use Rattle.c25_layout.proofs.InImage.{insn_items}
use Rattle.c25_layout.proofs.rows.item_at.Goals as goal

pub returns-in-Some : goal.returns-in-Some
returns-in-Some c = insn_items c.args.found.words.now c.args.address c.in-Some.insn c.insn_item.result c.insn_item.ensures.words c.insn_item.ensures.sayable c.in-Some.ensures
