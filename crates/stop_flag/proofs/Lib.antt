pub mod FlagMoves
pub mod Looking
pub mod Stopping
