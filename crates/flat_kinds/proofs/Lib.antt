pub mod OwnLengths
pub mod Sides
