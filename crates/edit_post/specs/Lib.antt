pub mod Requests
pub mod Merge
pub mod Post
pub mod QueueRule
pub mod MarkRule
pub mod Inside
