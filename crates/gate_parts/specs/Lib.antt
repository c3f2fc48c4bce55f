pub mod Endings
pub mod Seats
pub mod Ready
pub mod Actors
pub mod Scripts
pub mod Workers
