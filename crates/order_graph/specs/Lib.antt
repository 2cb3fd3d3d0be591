pub mod Sets
pub mod Searches
