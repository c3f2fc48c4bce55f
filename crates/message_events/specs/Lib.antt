pub mod Messages
pub mod Notes
pub mod Dispatches
pub mod Forms
pub mod Law
