pub mod TreeText
pub mod Lines
pub mod Nodes
pub mod Heads
pub mod Laws
