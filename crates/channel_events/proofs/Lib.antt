pub mod Puts
pub mod Gone
pub mod Follows
pub mod Noted
