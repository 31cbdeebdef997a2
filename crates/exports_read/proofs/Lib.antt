mod Reading
mod Bytes
mod Fields
mod Given
pub mod Handed
