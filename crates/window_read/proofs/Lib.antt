pub mod Filling
pub mod Run
pub mod Through
pub mod Measuring
pub mod Part
pub mod Frames
