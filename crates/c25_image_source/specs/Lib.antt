pub mod Asked
pub mod Faults
pub mod Hints
pub mod Made
pub mod Told
pub mod Words
