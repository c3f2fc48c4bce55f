pub mod Reading
pub mod Fields
pub mod Object
pub mod Nodes
