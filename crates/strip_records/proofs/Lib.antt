pub mod Bounded
pub mod Held
