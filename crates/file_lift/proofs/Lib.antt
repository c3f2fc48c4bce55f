pub mod NoFeeds
pub mod Counting
pub mod Laws
pub mod Sayings
pub mod Going
pub mod Flushing
