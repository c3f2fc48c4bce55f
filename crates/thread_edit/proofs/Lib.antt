pub mod Kept
pub mod Ascends
pub mod Well
