pub mod Cleared
pub mod Steps
pub mod WriteKinds
pub mod Fixed
