pub mod Joined
pub mod Lists
pub mod InImage
pub mod Runs
