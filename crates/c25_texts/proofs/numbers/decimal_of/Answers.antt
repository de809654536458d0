use Rattle.std.proofs.Common.{rules}
use Rattle.c25_meaning_common.specs.Digits.{decimal_of}
use Rattle.c25_texts.proofs.numbers.decimal_of.Goals as goal

pub returns-else-are_digits-clause-value : goal.returns-else-are_digits-clause-value
unfolding decimal_of
returns-else-are_digits-clause-value c = search rules
