pub mod Columns
pub mod Covered
