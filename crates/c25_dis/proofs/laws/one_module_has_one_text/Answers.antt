use Rattle.c25_dis.proofs.OneText.{one_module_text}
use Rattle.c25_dis.proofs.laws.one_module_has_one_text.Goals as goal

pub returns : goal.returns
returns c = one_module_text
