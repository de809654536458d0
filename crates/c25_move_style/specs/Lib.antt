-- How old sources show in which style they are written.
pub mod Shown
