pub mod Run
pub mod Surrogates
pub mod Pairs
