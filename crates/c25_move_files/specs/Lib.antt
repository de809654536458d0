-- Old sources of a disk, moved: what is read, and what becomes of it.
pub mod Names
pub mod Notes
pub mod Files
pub mod Styles
pub mod Task
pub mod Refusals
pub mod Holed
