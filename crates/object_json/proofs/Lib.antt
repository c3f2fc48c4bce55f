pub mod Members
pub mod Steps
pub mod Lists
pub mod Back
pub mod Plain
