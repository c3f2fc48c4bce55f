pub mod Bits
pub mod Permissions
