pub mod InOrder
pub mod Walking
