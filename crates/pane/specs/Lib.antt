pub mod Body
pub mod Same
