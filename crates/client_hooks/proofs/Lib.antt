pub mod Called
pub mod KindSets
