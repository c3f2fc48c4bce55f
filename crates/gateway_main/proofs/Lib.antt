pub mod Bounds
pub mod Commands
