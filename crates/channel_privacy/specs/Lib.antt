pub mod Withheld
pub mod Fates
pub mod ByNote
pub mod Law
