pub mod Breaches
pub mod Checked
