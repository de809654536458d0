pub mod Names
pub mod Assembled
