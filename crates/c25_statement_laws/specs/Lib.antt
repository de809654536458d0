pub mod ExportedNames
pub mod ListedWords
pub mod StatementLines
