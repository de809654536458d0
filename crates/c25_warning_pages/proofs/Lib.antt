pub mod NoName
pub mod Joined
pub mod Pieces
