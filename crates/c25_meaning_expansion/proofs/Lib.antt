pub mod ExpansionActs
pub mod ExpansionBounded
pub mod ExpansionFalls
pub mod ExpansionFirst
pub mod ExpansionLines
pub mod LeavingOut
