pub mod Building
pub mod Joined
pub mod Meeting
pub mod Owning
