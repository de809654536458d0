use Rattle.c25_suppositions.proofs.Registers.{page_shown}
use Rattle.c25_suppositions.proofs.written.page_of.Goals as goal

pub returns-clause-page : goal.returns-clause-page
returns-clause-page c = λ r small shown. page_shown c.args.regs.now r shown small
