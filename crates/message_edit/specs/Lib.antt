pub mod Channels
pub mod Messages
pub mod MessageEdits
