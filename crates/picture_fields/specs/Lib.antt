pub mod Picture
pub mod Same
pub mod Typed
