-- Lemmas over the definitions, for proofs to cite: nothing here has to be believed.
pub mod Walking
pub mod Solving
pub mod Exact
pub mod Zero
pub mod Shorter
