pub mod Laws
pub mod Lines
pub mod Spots
pub mod Totals
