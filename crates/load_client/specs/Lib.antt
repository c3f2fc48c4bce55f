pub mod Names
pub mod Watching
pub mod Ended
pub mod Agreement
