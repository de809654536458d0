-- Values of expressions over names that are looked up elsewhere.
pub mod Known
pub mod Values
