pub mod Flags
pub mod View
