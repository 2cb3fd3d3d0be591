-- Lemmas over the definitions, for proofs to cite: nothing here has to be believed.
pub mod Divisors
pub mod Extremes
pub mod InPlace
pub mod Members
pub mod Order
pub mod Quotients
pub mod Ring
pub mod Steps
pub mod Vectors
pub mod Weights
