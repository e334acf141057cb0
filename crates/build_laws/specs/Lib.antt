pub mod Joining
pub mod Straight
pub mod Pairs
