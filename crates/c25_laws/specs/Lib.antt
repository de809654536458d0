pub mod ModuleStatements
pub mod ProgramStatements
pub mod SourceValues
pub mod SourceWords
