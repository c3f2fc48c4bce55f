pub mod Intents
pub mod Walks
pub mod Subcommands
pub mod Singles
pub mod Serve
pub mod Commands
pub mod Found
