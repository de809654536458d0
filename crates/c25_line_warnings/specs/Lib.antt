pub mod Names
pub mod SourceLine
pub mod Instructions
pub mod Said
pub mod Labels
pub mod Memories
pub mod Reach
pub mod View
