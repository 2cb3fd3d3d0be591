-- Lemmas over the definitions, for proofs to cite: nothing here has to be believed.
pub mod Collisions
pub mod Farkas
pub mod Grounds
pub mod Nested
pub mod OneList
pub mod OnePath
pub mod Reading
pub mod Roots
pub mod SamePoints
pub mod Turning
