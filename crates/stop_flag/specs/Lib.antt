pub mod Ended
pub mod FlagRule
pub mod Flags
pub mod Inside
