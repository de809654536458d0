-- What the debugger's prompt shows of registers, words and outputs.
pub mod Fields
pub mod Inputs
pub mod Jumps
pub mod Outputs
pub mod SourceLines
pub mod Values
