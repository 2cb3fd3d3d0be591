pub mod Nearest
pub mod Spelling
pub mod Laws
