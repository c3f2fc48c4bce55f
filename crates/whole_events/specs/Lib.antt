pub mod Notes
pub mod Dispatches
pub mod ByNote
pub mod Law
