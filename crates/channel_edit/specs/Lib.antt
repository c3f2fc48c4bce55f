pub mod Channels
pub mod ChannelEnd
pub mod OverwriteEdits
pub mod ChannelEdits
