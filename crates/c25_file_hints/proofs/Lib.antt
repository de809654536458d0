pub mod Causes
mod PastMemory
pub mod Places
