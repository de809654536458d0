pub mod OfFronts
