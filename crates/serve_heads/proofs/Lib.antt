mod Begun
pub mod Once
