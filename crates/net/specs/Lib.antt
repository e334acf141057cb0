pub mod Held
pub mod NetValue
