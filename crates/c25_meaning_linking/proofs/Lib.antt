pub mod Apart
pub mod ByModules
pub mod Parts
pub mod PlaceNames
