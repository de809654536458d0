-- The notes of faults of sources in front of which symbols are defined.
pub mod Lines
pub mod Places
pub mod Notes
