pub mod Results
pub mod Reading
pub mod Lines
pub mod Laws
