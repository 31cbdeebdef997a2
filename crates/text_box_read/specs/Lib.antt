pub mod TextBox
pub mod Typed
