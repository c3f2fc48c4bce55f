pub mod Shown
pub mod Sight
pub mod Seen
pub mod Sync
pub mod ChannelSights
pub mod Law
