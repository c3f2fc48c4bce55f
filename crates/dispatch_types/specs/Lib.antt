pub mod Kinds
pub mod GuildOf
pub mod Serves
pub mod Objects
pub mod Projection
pub mod Fold
