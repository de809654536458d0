pub mod Tables
pub mod Sizes
pub mod Unhindered
pub mod Nameless
