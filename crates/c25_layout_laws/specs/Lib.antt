-- What a layout says.
pub mod Layouts
pub mod Listed
