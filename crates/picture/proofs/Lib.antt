pub mod Boxes
pub mod Rows
pub mod Scaling
pub mod Words
