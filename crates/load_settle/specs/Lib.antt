pub mod Passes
pub mod Readers
