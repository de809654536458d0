-- What the laws of runs say is kept, and outputs put before those of a run.
pub mod KeptCode
pub mod Behind
