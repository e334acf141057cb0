pub mod Few
pub mod Ways
pub mod Hanging
pub mod Adding
pub mod Sharing
pub mod Steps
pub mod HookMoves
pub mod ShareMoves
