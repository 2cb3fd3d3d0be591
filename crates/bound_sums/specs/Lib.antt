pub mod Bounding
pub mod Sparse
