pub mod Ends
pub mod Dispatches
pub mod ByNote
pub mod Law
