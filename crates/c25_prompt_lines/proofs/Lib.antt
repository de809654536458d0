pub mod Found
pub mod FoundText
