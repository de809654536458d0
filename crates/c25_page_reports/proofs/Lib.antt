pub mod Named
pub mod Read
pub mod Sure
pub mod Told
pub mod Rows
