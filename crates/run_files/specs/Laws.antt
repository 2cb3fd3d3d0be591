-- Lemmas over the definitions, for proofs to cite: nothing here has to be believed.
pub mod Exact
pub mod Made
pub mod Stopping
