pub mod Decisions
pub mod WideNodes
