pub mod Covering
pub mod Searches
pub mod Sizes
pub mod Laws
