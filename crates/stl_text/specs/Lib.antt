pub mod Words
pub mod Reading
pub mod Grammar
pub mod Meshes
pub mod Progress
pub mod Laws
