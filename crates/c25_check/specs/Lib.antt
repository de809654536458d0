pub mod Showing
pub mod Checking
