pub mod Coming
pub mod Once
pub mod Passed
pub mod Reported
