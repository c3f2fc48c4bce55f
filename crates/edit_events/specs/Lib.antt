pub mod Greeting
pub mod Was
pub mod Due
pub mod ByNote
pub mod Forms
pub mod Law
pub mod Messages
pub mod Privacy
