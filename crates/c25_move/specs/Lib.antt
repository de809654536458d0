-- What is promised of old sources that are moved.
pub mod Bytes
pub mod Promises
pub mod Rewritten
