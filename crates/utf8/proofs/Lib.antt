pub mod Tests
pub mod Rows
pub mod Walk
pub mod Ascii
pub mod Standard
pub mod Examples
