-- Lemmas over the definitions, for proofs to cite: nothing here has to be believed.
pub mod Agreeing
pub mod AgreeingJobs
pub mod Covering
pub mod CoveringEdges
pub mod CoveringFacets
pub mod CoveringHeights
pub mod CoveringMeshes
pub mod CoveringSpots
pub mod Folding
pub mod Unique
