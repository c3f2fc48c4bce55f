pub mod Views
pub mod QueueMoves
pub mod MarkMoves
pub mod Looks
pub mod Merging
