pub mod Fails
pub mod Gathering
pub mod Unread
