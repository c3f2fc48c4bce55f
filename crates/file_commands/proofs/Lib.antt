pub mod Usage
pub mod Meaning
pub mod Unread
