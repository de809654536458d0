pub mod Tally
pub mod Ends
pub mod Told
