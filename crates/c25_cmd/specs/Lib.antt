pub mod After
pub mod Known
pub mod Refused
pub mod SectionLines
pub mod View
