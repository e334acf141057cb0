pub mod Grown
pub mod Lengths
pub mod Measured
pub mod Growth
pub mod Spanners
