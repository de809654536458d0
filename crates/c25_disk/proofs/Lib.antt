pub mod Added
pub mod Asked
pub mod Completed
pub mod Copied
