pub mod Steps
pub mod Found
pub mod Pieces
pub mod Keeps
