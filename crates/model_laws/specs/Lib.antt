pub mod Collisions
pub mod Nested
pub mod Roots
pub mod SamePoints
pub mod Turning
pub mod Laws
