pub mod Wishes
pub mod Law
