pub mod Received
pub mod State
pub mod Table
pub mod Step
pub mod Law
