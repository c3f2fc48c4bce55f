pub mod Histories
pub mod Stepping
pub mod Marking
pub mod Trimming
pub mod Turning
pub mod Growing
