pub mod Program
pub mod Table
pub mod Written
pub mod Flow
pub mod Clauses
