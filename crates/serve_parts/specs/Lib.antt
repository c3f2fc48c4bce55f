pub mod Files
pub mod Parts
pub mod Kinds
pub mod ByKind
