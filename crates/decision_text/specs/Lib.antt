pub mod DecisionText
pub mod Laws
