pub mod Items
pub mod Kinds
pub mod CommandFiles
pub mod CommandHints
pub mod Parts
pub mod Wanted
