-- How often the instruction at each address acts in a run.
pub mod Counts
