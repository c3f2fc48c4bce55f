pub mod Done
pub mod Ends
pub mod Gathers
pub mod Ranks
