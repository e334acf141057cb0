pub mod Builds
pub mod Moves
