pub mod Scan
pub mod Rest
pub mod Standard16
pub mod Examples
