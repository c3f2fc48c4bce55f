pub mod Of
pub mod Follows
pub mod Told
pub mod Forming
pub mod Alike
pub mod Unserved
