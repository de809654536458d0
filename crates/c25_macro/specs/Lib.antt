-- What an expander and a tracer, and the types that they are made of, stand for.
pub mod Acts
pub mod Config
pub mod Dictionary
pub mod Expander
pub mod Expanders
pub mod SourceFrames
pub mod LeavingOut
pub mod Macros
pub mod NextLines
pub mod Refusals
pub mod Stages
pub mod Tracers
