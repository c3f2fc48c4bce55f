pub mod Happened
pub mod Listed
pub mod Fields
pub mod Meeting
pub mod Losing
pub mod Composing
