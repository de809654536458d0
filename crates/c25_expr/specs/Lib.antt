-- What the types of expressions, symbols and operands stand for, and how expressions are read and valued.
pub mod Completes
pub mod Pieces
pub mod Postfix
pub mod Stack
pub mod Steps
pub mod Symbols
pub mod View
pub mod OperandTexts
