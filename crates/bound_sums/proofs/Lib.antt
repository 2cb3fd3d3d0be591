pub mod BoundLaws
pub mod Contradicts
pub mod RowLaws
pub mod Settled
pub mod Sums
