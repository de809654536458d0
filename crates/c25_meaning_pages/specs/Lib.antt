pub mod Known
pub mod KnownAfter
pub mod Routines
pub mod Inductive
pub mod Supposed
pub mod Operands
