pub mod Cleared
pub mod Steps
pub mod Moves
