-- Which lines the assembler reads.
pub mod Reading
