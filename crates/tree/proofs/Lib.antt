pub mod Climbing
pub mod Flooring
pub mod Halves
pub mod Hooking
pub mod Saving
pub mod Tabled
