pub mod Begun
pub mod Copied
pub mod Prompted
