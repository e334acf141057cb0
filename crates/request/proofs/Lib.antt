pub mod Numerals
mod Lining
mod Parting
mod Few
mod Once
