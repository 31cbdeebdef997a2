pub mod Came
pub mod Stay
