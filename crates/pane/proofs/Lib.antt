pub mod Cleared
pub mod Calls
pub mod Back
pub mod Same
