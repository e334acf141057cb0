pub mod Keeping
pub mod Owning
pub mod Partnering
pub mod Rising
pub mod Stepping
