pub mod Asks
pub mod Intents
pub mod Kind
