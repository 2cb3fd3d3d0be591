-- Lemmas over the definitions, for proofs to cite: nothing here has to be believed.
pub mod Covering
pub mod Firsts
pub mod KeptRows
pub mod KeptSides
pub mod Maximal
pub mod Nesting
pub mod Numbered
pub mod Pairs
pub mod Parting
pub mod Places
pub mod Reaching
pub mod Rows
pub mod Settling
pub mod Testing
