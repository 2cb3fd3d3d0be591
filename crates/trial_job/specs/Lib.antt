pub mod Trials
pub mod Making
