pub mod Chain
mod Rows
pub mod Square
pub mod Walks
