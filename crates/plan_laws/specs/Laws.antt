-- Lemmas over the definitions, for proofs to cite: nothing here has to be believed.
pub mod Audits
pub mod Dropping
pub mod Inside
pub mod Looking
pub mod Members
pub mod Moved
pub mod ObjectSpans
pub mod OnPath
pub mod Ordered
pub mod Pasting
pub mod PathRows
pub mod PlanPoints
pub mod SideRows
