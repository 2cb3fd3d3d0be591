pub mod Edges
pub mod Fitting
pub mod Outcomes
