-- The task `move`.
pub mod BssPlace
pub mod Compared
pub mod DifferenceText
pub mod Differing
pub mod Holes
pub mod Making
pub mod Moving
