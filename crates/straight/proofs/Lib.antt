pub mod Rows
pub mod Spaced
pub mod Whole
