pub mod Bars
pub mod Bands
