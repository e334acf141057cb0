pub mod Joinings
pub mod Joiners
pub mod Pairs
pub mod Groups
