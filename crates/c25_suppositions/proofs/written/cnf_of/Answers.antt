use Rattle.c25_suppositions.proofs.Registers.{cnf_shown}
use Rattle.c25_suppositions.proofs.written.cnf_of.Goals as goal

pub returns : goal.returns
returns c = λ r shown. cnf_shown c.args.regs.now r shown
