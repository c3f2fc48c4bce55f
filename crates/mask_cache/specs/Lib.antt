pub mod Masks
pub mod Changes
pub mod Law
