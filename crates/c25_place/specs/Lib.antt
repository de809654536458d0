pub mod Blocks
pub mod Missing
pub mod Outputs
pub mod Placement
pub mod Ranges
pub mod Requests
pub mod Room
pub mod View
