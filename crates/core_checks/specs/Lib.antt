pub mod Checks
pub mod Answered
