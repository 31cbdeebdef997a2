pub mod Signed
pub mod Puts
