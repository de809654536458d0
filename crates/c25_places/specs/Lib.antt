-- The part of a line where it is refused: by its text, by what each operand has to be, and by both.
pub mod TextPart
pub mod Wanted
pub mod Refused
pub mod Defined
pub mod Values
pub mod FoundView
