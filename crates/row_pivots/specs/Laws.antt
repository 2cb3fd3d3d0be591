-- Lemmas over the definitions, for proofs to cite: nothing here has to be believed.
pub mod Bland
pub mod Changes
pub mod Contradictions
pub mod Measure
pub mod NextTable
pub mod OneTable
pub mod Pivoting
pub mod Points
pub mod Slacks
pub mod Sorted
pub mod Turned
pub mod Values
pub mod WideRows
pub mod Grown
pub mod Shrunk
