pub mod Bytes
pub mod Digits
pub mod Faults
pub mod Fields
pub mod Items
pub mod Results
