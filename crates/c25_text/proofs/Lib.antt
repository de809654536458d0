pub mod Cuts
pub mod Fits
pub mod Scans
pub mod Shown
pub mod Splits
pub mod Strings
pub mod Unique
