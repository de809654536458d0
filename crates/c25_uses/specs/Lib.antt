pub mod Uses
pub mod UsedNames
pub mod View
