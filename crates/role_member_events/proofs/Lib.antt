pub mod Membership
pub mod Rights
pub mod Gone
pub mod Follows
pub mod Of
pub mod Noted
