pub mod Readings
pub mod Objects
pub mod Members
pub mod Numbers
pub mod NodeReadings
pub mod Ids
