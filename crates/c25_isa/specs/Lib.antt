pub mod Extent
pub mod Letters
