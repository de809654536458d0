-- What definitions of a command line stand for, and the fronts of sources that define them.
pub mod Definitions
pub mod Fronts
pub mod Fronted
pub mod Folders
pub mod Adding
