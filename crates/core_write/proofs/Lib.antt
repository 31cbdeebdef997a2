pub mod Padding
pub mod Puts
pub mod Chain
pub mod Texts
