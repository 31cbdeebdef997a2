pub mod Columns
pub mod Parted
