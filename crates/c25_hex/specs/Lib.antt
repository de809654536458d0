pub mod Faults
pub mod Hex
pub mod HexText
pub mod Cells
pub mod View
pub mod Words
