pub mod Decimals
pub mod Even
pub mod Examples
pub mod Hexadecimals
pub mod Made
pub mod Spelled
pub mod Within
