pub mod Meets
pub mod Shares
pub mod Searches
pub mod Siblings
