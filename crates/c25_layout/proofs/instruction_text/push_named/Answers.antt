use Rattle.c25_layout.proofs.instruction_text.push_named.Goals as goal

pub returns-in-LongMem : goal.returns-in-LongMem
returns-in-LongMem c = rw c.in-LongMem.is (c.push_long_mem.ensures c.in-LongMem.field-1)

pub returns-in-Jump : goal.returns-in-Jump
returns-in-Jump c = rw c.in-Jump.is (c.push_jump.ensures c.in-Jump.field-1)
