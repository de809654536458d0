pub mod Blank
pub mod Flow
pub mod Hints
pub mod Layout
pub mod Names
pub mod Layouts
pub mod Buildable
pub mod SourceText
