use Rattle.std.proofs.Common.{refl}
use Rattle.c25_meaning_instructions.specs.Spellings.{spellings}
use Rattle.c25_isa.specs.declared.in_order.TheConstants.{IN_ORDER, NUMBERS}
use Rattle.c25_isa.proofs.InOrder.{in_order, has_each}
use Rattle.c25_isa.proofs.in_order.table.Goals as goal

pub returns-clause-rise : goal.returns-clause-rise
returns-clause-rise c = in_order NUMBERS refl

pub returns-clause-numbers : goal.returns-clause-numbers
returns-clause-numbers c = refl

pub returns-clause-len : goal.returns-clause-len
returns-clause-len c = refl

pub returns-clause-short : goal.returns-clause-short
returns-clause-short c = refl

pub returns-clause-all : goal.returns-clause-all
unfolding spellings
returns-clause-all c = has_each IN_ORDER refl
