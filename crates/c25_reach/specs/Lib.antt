pub mod Proposals
pub mod ReachLine
pub mod Reached
pub mod Room
