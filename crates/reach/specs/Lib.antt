pub mod Agrees
pub mod Seen
pub mod Figures
