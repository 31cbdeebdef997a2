pub mod Parts
pub mod Colors
pub mod QuadBits
pub mod QuadRuns
pub mod Chunks
pub mod Here
pub mod Examples
