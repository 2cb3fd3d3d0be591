-- Lemmas over the definitions, for proofs to cite: nothing here has to be believed.
pub mod Counting
pub mod Counts
pub mod Forms
pub mod Heads
pub mod Mults
pub mod Nodes
pub mod Numbers
pub mod Pairs
