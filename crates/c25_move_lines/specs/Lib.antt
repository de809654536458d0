-- What the rules for lines of old sources say.
pub mod Rules
pub mod Constants
pub mod Directives
pub mod Changes
pub mod LocalLabels
pub mod Values
pub mod Pieces
pub mod Progress
