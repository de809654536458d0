pub mod Within
pub mod Ended
pub mod Fetched
pub mod Joined
pub mod Listed
pub mod Rows
