pub mod Found
pub mod Gathered
pub mod Shown
pub mod Silent
