pub mod Parts
pub mod Quads
pub mod Typed
pub mod Material
