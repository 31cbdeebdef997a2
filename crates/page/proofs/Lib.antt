pub mod OneLine
pub mod Parts
