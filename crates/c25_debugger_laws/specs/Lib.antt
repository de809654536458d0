pub mod Example
pub mod StatementAnswers
