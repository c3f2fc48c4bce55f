pub mod Lifted
pub mod Lifting
