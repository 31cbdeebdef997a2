pub mod Cleared
pub mod Same
pub mod Lengths
pub mod Fields
pub mod Back
pub mod Calls
pub mod Examples
