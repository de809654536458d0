-- Expressions of old sources.
pub mod Places
pub mod Marks
pub mod Labels
pub mod OldReading
pub mod Reader
pub mod OldSymbols
pub mod Scanning
pub mod SameValue
pub mod Laws
