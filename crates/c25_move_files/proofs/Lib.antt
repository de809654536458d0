pub mod AddressText
pub mod Each
pub mod Holes
pub mod Parts
pub mod Plain
pub mod Refusing
pub mod Styles
