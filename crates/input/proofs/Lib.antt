pub mod Cuts
pub mod Lining
