pub mod Packed
pub mod Enums
pub mod Fields
pub mod Examples
