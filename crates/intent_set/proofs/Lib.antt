pub mod IntentSets
pub mod Names
