pub mod Draws
pub mod Towers
