-- Lemmas over the definitions, for proofs to cite: nothing here has to be believed.
pub mod Allowance
pub mod Counting
pub mod Covering
pub mod FewSides
pub mod Gaps
pub mod MostSides
pub mod NextSides
pub mod Opened
pub mod Places
pub mod Refuting
pub mod RowSizes
pub mod Shares
pub mod SideCounts
pub mod Sums
