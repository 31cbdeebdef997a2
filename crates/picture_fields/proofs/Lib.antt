pub mod Run
pub mod Same
