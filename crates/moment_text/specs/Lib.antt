pub mod Civil
pub mod Text
pub mod Shown
pub mod Named
