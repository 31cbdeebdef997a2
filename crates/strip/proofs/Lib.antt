pub mod Below
pub mod Fills
pub mod BackKinds
pub mod Back
pub mod Same
pub mod Demand
pub mod Orders
pub mod Examples
