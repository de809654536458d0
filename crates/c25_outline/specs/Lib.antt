pub mod Blocks
pub mod Macros
pub mod Taken
