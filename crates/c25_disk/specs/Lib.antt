pub mod FaultNames
pub mod Held
pub mod Copies
pub mod Written
pub mod Refusals
