pub mod Ordered
pub mod Made
