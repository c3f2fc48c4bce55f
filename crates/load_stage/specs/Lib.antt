pub mod Turns
pub mod Guilds
pub mod Doors
pub mod Bots
pub mod Clients
pub mod Parts
pub mod Stages
pub mod Drafts
