pub mod Ready
pub mod Dialled
pub mod Drafted
pub mod Staged
