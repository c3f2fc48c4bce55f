pub mod Ready
pub mod Drafted
pub mod Staged
