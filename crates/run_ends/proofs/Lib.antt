pub mod Sendings
pub mod Merging
pub mod Ending
pub mod Readers
pub mod Turns
