pub mod Watched
pub mod Histories
pub mod Links
pub mod Drives
pub mod Turns
