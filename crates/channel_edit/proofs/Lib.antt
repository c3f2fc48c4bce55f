pub mod Ascends
pub mod Kept
pub mod Threads
pub mod Well
