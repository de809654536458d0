pub mod Characters
pub mod Commas
pub mod Complete
pub mod Erased
pub mod LeftToRight
pub mod Scans
pub mod Steps
pub mod Valued
