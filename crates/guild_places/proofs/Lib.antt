pub mod Guilds
