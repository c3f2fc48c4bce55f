pub mod OneKind
pub mod ByKind
pub mod Sends
