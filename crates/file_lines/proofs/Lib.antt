pub mod Lists
pub mod Fed
mod Reading
