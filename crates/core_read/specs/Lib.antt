pub mod Refusals
pub mod Bytes
pub mod Taken
pub mod Lists
pub mod Laws
pub mod Steps
