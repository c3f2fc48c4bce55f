pub mod Accepted
pub mod Faults
pub mod Heads
pub mod Reads
pub mod Sends
