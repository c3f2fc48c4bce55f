pub mod Server
pub mod Texts
pub mod Transcript
pub mod Represents
pub mod Played
