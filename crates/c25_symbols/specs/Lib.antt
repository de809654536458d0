pub mod Parts
pub mod Symbols
pub mod Text
pub mod Used
pub mod View
