use Rattle.std.proofs.Common.{rules}
use Rattle.c25_meaning_processor.proofs.registers.DataPage.number.Goals as goal

pub returns-clause-value : goal.returns-clause-value
returns-clause-value c = search rules
