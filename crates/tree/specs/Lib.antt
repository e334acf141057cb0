pub mod TreeValue
pub mod Tables
pub mod Hooks
pub mod Searches
