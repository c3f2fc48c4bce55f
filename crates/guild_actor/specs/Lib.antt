pub mod Acts
pub mod Desks
