-- Lemmas over the definitions, for proofs to cite: nothing here has to be believed.
pub mod Goodness
pub mod Grows
pub mod Kept
pub mod Numbering
pub mod Standing
pub mod Surgery
