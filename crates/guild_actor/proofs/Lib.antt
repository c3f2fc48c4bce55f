pub mod Edits
pub mod Counts
pub mod Writers
pub mod Delivery
pub mod OneEdit
