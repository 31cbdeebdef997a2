pub mod Storing
pub mod Chain
pub mod Lengths
