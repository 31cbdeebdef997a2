pub mod Fixed
pub mod Written
