pub mod Orders
pub mod Firsts
pub mod Bests
pub mod Lexical
