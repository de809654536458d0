pub mod Arranged
pub mod Complete
pub mod LinkTips
pub mod Program
pub mod SourceTips
pub mod Task
pub mod Tips
pub mod Together
