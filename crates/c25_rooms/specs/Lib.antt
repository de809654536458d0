pub mod Bases
pub mod Blocks
pub mod Crossings
pub mod Details
pub mod Holes
pub mod Marks
pub mod Measured
