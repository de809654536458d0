-- The instruction set: the opcode table, spellings, printed texts, and fields that linking fills.
pub mod RelocatedInsn
pub mod Show
pub mod Spellings
pub mod Table
