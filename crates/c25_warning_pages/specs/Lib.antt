pub mod Pages
pub mod Explained
