pub mod FirstWords
pub mod Keys
pub mod OperandBytes
pub mod Readings
pub mod RowBases
pub mod Spelled
pub mod Spellings
pub mod RelocatedFields
