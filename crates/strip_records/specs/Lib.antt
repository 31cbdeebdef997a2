pub mod Kinds
pub mod Whole
pub mod Typed
pub mod Filled
pub mod Held
