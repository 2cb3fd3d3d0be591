-- Lemmas over the definitions, which the proofs of other crates cite too.
pub mod Digits
pub mod Spelling
pub mod Nearest
