pub mod Saying
pub mod Source
pub mod Column
pub mod ExpansionLaws
