pub mod FromBase
pub mod Looks
pub mod Tiers
pub mod MaskIn
pub mod Stands
