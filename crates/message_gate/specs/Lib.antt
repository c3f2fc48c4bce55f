pub mod Shows
pub mod Redacted
