pub mod Came
pub mod Cleared
pub mod Calls
pub mod Back
pub mod Examples
