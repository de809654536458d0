pub mod Faults
pub mod Overlaps
pub mod Sites
pub mod View
pub mod Unfits
