pub mod Options
pub mod InOrder
