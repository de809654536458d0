mod Again
mod Based
mod First
pub mod Linked
pub mod Loaded
pub mod Marked
mod Misplaced
mod Named
mod Owned
mod Parted
mod Printed
mod Search
pub mod Told
