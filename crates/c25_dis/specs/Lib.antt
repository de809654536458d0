pub mod Index
pub mod Lines
pub mod Reading
pub mod Sections
pub mod View
pub mod Words
