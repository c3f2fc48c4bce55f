pub mod Dealt
pub mod Numbered
pub mod Passes
pub mod Posted
pub mod Read
pub mod Seated
pub mod Turned
pub mod Written
