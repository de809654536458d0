pub mod InOrder
pub mod Joined
pub mod Marked
pub mod Next
pub mod Ranged
