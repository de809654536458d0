pub mod Operands
pub mod Assembled
