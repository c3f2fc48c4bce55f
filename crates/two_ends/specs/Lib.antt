pub mod Flights
pub mod Ends
pub mod Events
pub mod TwoEnds
