-- Images of programs: words by their addresses, and the places of instructions.
pub mod Marks
pub mod WordMap
