pub mod Walk
pub mod Promise
pub mod Trail
pub mod Worked
