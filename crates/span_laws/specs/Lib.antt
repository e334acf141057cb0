pub mod Links
pub mod LinkOrder
pub mod Spanning
