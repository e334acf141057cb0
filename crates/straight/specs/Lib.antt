pub mod Built
pub mod Laying
