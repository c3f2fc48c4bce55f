pub mod Follows
pub mod Noted
