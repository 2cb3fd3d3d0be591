pub mod Keeping
pub mod Nesting
