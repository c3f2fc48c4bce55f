pub mod StepNames
pub mod Intents
pub mod RingSizes
pub mod Fits
pub mod Lines
pub mod Reader
pub mod Written
pub mod Lifted
