pub mod Calls
pub mod Courses
pub mod Links
pub mod Steps
