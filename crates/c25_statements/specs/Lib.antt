pub mod Exprs
pub mod Steps
pub mod View
