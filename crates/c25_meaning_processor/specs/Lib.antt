-- The processor: its data path, registers and memories, what each instruction and each step does, and runs; and what drives a
-- simulation: samples, schedules, scripts and breakpoints.
pub mod Arithmetic
pub mod Effect
pub mod FirstState
pub mod Memory
pub mod Operand
pub mod Reset
pub mod Run
pub mod RunText
pub mod State
pub mod Statements
pub mod Status
pub mod Step
pub mod WordStep
pub mod Samples
pub mod Schedule
pub mod Script
pub mod Signals
pub mod Goes
pub mod Set
