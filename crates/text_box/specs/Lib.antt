pub mod Same
pub mod Body
