pub mod Lists
pub mod Back
pub mod Frames
