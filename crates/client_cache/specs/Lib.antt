pub mod Sent
pub mod Cached
pub mod Settled
