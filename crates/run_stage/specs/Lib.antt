pub mod Dealing
pub mod Posts
pub mod Hubs
pub mod Seats
pub mod Begins
