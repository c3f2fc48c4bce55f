pub mod Asked
pub mod Synced
pub mod Has
pub mod Ended
pub mod Threads
pub mod Served
