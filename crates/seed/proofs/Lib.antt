pub mod Groups
pub mod Answered
pub mod Listing
