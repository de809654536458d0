-- What the types of substitution stand for, and texts in which nothing is replaced.
pub mod Fresh
pub mod Pairs
pub mod View
pub mod PlainTexts
