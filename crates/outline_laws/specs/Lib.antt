pub mod Beyond
pub mod Chains
pub mod Corners
pub mod Directions
pub mod Edges
pub mod Hulls
pub mod Laws
pub mod Outlines
