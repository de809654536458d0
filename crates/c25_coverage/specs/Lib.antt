pub mod Branches
pub mod Lcov
pub mod Lines
pub mod List
pub mod Run
pub mod View
