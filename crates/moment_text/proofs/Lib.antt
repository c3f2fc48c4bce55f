pub mod Civils
pub mod Shown
pub mod Named
pub mod Instants
