pub mod Loans
pub mod Sources
pub mod Doors
pub mod Clocks
