pub mod Files
pub mod InFiles
