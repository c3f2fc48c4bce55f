pub mod Fault
pub mod Shape
pub mod Read
pub mod Written
pub mod Out
pub mod Candidate
pub mod Fits
