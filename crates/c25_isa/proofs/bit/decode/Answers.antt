-- Where no row has the first word, no instruction of the family has it.
use Rattle.c25_meaning_instructions.proofs.OperandBytes.{operand_byte_below}
use Rattle.c25_isa.proofs.bit.decode.Goals as goal

pub returns-in_err-name-clause-none : goal.returns-in_err-name-clause-none
returns-in_err-name-clause-none c = rw c.from_residual.ensures (λ second name addr code reads.
    c.in_err-name.ensures.none name code _ reads.in_range.0 (operand_byte_below addr reads.in_range.1) reads.first_is)
