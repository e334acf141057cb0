pub mod Deciding
pub mod Finding
