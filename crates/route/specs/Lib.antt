pub mod Letters
pub mod Stops
