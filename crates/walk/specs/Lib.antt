pub mod Limits
pub mod Marks
pub mod Tables
pub mod WalkValue
pub mod Walked
