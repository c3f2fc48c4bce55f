pub mod Guilds
pub mod Edits
