pub mod Bare
pub mod Places
