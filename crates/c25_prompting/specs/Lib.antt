-- Sources on a disk, debugged at the prompt.
pub mod Debugged
pub mod Prompting
pub mod Texts
pub mod View
pub mod Unread
