pub mod Names
pub mod FirstLines
pub mod Defined
pub mod Shown
pub mod Walks
pub mod Copying
