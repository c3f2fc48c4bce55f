pub mod Usage
pub mod Files
pub mod Playing
pub mod Lifting
