pub mod Views
pub mod FlagMoves
pub mod LaneMoves
pub mod CallMoves
pub mod CallSteps
