pub mod Stay
pub mod Mended
pub mod Listed
