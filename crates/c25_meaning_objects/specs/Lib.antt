pub mod Faults
pub mod Module
pub mod RecordReading
pub mod Records
