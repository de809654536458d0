pub mod Texts
pub mod Fitting
pub mod Small
mod ByName
mod AllSymbols
