pub mod Well
