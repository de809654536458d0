-- What the EPROMs of a program hold: their words, the bytes of each device, what a programmer shows of them, and
-- the words of bytes that were read back.
pub mod Rom
pub mod Bytes
pub mod Checks
pub mod Shape
pub mod Files
pub mod View
pub mod Made
