pub mod Gaining
pub mod Linking
pub mod Placing
