pub mod Ending
pub mod ProgramFiles
