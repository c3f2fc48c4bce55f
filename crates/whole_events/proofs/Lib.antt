pub mod Others
pub mod Follows
pub mod Noted
