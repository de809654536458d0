pub mod Files
pub mod Keys
