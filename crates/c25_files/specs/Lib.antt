-- What files, their lines and the texts of readers stand for.
pub mod Whole
pub mod Passages
pub mod Added
pub mod Counted
pub mod Entries
pub mod FaultNames
