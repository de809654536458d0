pub mod Statements
pub mod Operands
pub mod Verdicts
pub mod Warnings
pub mod Findings
