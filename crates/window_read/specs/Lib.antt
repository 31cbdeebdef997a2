pub mod Window
pub mod Typed
