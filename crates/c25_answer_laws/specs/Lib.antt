pub mod Answered
pub mod SourceAnswers
pub mod SameWords
pub mod ImageWords
