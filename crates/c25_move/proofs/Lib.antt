pub mod Moving
pub mod NewLines
pub mod Promising
pub mod Sources
