pub mod Pane
pub mod Typed
