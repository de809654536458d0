-- What runs of the same words have in common, whose instructions stand at other places.
pub mod Agree
