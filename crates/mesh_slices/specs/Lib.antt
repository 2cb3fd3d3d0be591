-- definitions of the contracts: what an object is, what covers a mesh, which scenes agree
pub mod Objects
pub mod Cover
pub mod Agreement
-- definitions of steps on the way: corner points, their ranges, vertices, zones while they grow, spots that are folded
pub mod CornerPoints
pub mod Ranges
pub mod Vertices
pub mod Runs
pub mod Folding
-- lemmas: outlines are unique
-- lemmas: zones cover their bands
-- lemmas: scenes that agree, and the scene of a job with that of its files
pub mod Laws
