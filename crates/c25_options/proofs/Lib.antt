pub mod Ordered
pub mod FlagText
pub mod NumberText
pub mod Rows
pub mod Walks
pub mod Complete
pub mod Found
