pub mod Characters
pub mod Lefts
pub mod Names
