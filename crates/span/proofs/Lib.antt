pub mod Outside
pub mod Firsts
pub mod Grows
