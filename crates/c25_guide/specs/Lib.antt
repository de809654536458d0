-- The second formulation of the instruction set, in the form of the User's Guide: rows as signs, sums, status words, and
-- what each row affects.
pub mod Affects
pub mod Patterns
pub mod Rows
pub mod StatusWords
pub mod Sums
