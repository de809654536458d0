pub mod OneCount
pub mod Alike
pub mod Sums
pub mod Acting
pub mod AllSteps
