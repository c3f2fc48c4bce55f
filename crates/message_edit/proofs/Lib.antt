pub mod Kept
pub mod Well
