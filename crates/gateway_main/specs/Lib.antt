pub mod Following
pub mod Gate
