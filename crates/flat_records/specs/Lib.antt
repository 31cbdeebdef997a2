pub mod Records
pub mod Below
pub mod Typed
pub mod Unread
