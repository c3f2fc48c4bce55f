pub mod Dispatches
pub mod Ends
pub mod ByNote
pub mod Law
