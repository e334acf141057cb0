pub mod CallsMade
