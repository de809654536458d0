pub mod EndNote
pub mod Ground
pub mod Standing
pub mod Stepping
pub mod Texts
