-- Lemmas over the definitions, for proofs to cite: nothing here has to be believed.
pub mod Independence
pub mod Kernel
pub mod Lines
pub mod OneForm
pub mod OneWalk
pub mod Pivots
pub mod Wide
