pub mod Edges
pub mod Volumes
pub mod Verdicts
pub mod Runs
