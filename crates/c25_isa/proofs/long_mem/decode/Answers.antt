-- Where no row has the high byte, or no operand the low one, no instruction of the family has the first word.
use Rattle.std.proofs.Common.{arith}
use Rattle.c25_meaning_instructions.proofs.OperandBytes.{operand_byte_below}
use Rattle.c25_meaning_instructions.proofs.RowBases.{long_mem_whole}
use Rattle.c25_isa.proofs.long_mem.decode.Goals as goal

pub returns-in_err-name-clause-none : goal.returns-in_err-name-clause-none
returns-in_err-name-clause-none c = rw c.from_residual.ensures (λ name word addr reads.
    let whole = long_mem_whole name in
    let low = operand_byte_below addr reads.in_range.1 in
    c.in_err-name.ensures.none name (omega arith))

pub returns-in_err-addr-clause-none : goal.returns-in_err-addr-clause-none
returns-in_err-addr-clause-none c = rw c.from_residual-in_err-addr.ensures (λ name word addr reads.
    let whole = long_mem_whole name in
    let low = operand_byte_below addr reads.in_range.1 in
    c.in_err-addr.ensures.none addr reads.in_range.1 (omega arith))
