-- Fronts that are added one by one.
pub mod Added
