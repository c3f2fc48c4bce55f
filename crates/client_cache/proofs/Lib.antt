pub mod Lists
pub mod Changes
pub mod Synced
pub mod Entries
pub mod Settled
