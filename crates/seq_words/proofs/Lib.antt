pub mod Free
pub mod Faults
