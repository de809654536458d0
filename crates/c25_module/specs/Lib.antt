pub mod Differing
pub mod View
