pub mod Circles
pub mod Judged
pub mod Kept
pub mod Rooms
pub mod Rules
pub mod Trails
pub mod Waits
pub mod Wholes
