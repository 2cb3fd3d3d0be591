pub mod EdgeLaws
pub mod Halving
pub mod Moves
pub mod Rooms
pub mod Shifts
