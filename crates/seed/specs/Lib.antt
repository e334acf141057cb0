pub use Rattle.forest.specs.Rooted
pub mod Ended
pub mod Labelled
pub mod SeedValue
pub mod Seeds
