pub mod TierFacts
pub mod Grants
pub mod Granted
pub mod Alike
pub mod ByMasks
