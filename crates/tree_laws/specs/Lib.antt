pub mod Trees
pub mod Distances
pub mod Hooks
pub mod Shares
