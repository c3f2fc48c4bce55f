pub mod Gathered
pub mod Guilds
pub mod Heads
