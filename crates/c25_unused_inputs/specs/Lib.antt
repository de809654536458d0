pub mod Ports
pub mod Requests
pub mod Stepping
pub mod Taking
pub mod Texts
pub mod Unused
pub mod Watched
