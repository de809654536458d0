-- Lines at the prompt, and the commands that they are.
pub mod Addresses
pub mod Commands
pub mod Expressions
pub mod SourceTexts
pub mod WithinMemory
pub mod Wrong
