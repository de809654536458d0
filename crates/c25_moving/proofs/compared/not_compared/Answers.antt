use Rattle.std.proofs.Common.{codes}
use Rattle.c25_chain.specs.FaultText.{fault_text}
use Rattle.c25_moving.proofs.Texts.{with_three}
use Rattle.c25_moving.proofs.compared.not_compared.Goals as goal

pub returns-clause-text : goal.returns-clause-text
returns-clause-text c = with_three (fault_text c.args.fault.now) (codes "\n") c.args.name.now (codes ": not compared\n") _ _ c.in_ok-text.ensures c.in_ok-push_texts.ensures
