pub mod Faults
pub mod Runs
pub mod Loads
pub mod Ends
pub mod Sorted
pub mod Joined
pub mod Causes
