pub mod Answered
pub mod Law
