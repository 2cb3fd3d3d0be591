pub mod Same
pub mod Sums
pub mod Counts
pub mod Steps
pub mod Walk
pub mod Ends
pub mod Ascents
pub mod HalfEdges
