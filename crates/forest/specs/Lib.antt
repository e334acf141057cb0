pub mod Rooted
pub mod Edges
pub mod Paths
pub mod Growth
pub mod Labels
