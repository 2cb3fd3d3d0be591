pub mod Certificates
pub mod Cubes
pub mod Deciding
pub mod Jobs
pub mod Plans
pub mod Rows
pub mod Solving
pub mod Uneven
