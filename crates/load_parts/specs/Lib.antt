pub mod Clients
pub mod Parts
pub mod Kinds
pub mod ByKind
pub mod TaskTeams
