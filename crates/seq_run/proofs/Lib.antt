pub mod Planned
pub mod Audited
pub mod Claimed
pub mod Answered
pub mod Found
pub mod Ended
pub mod Trying
pub mod Pieces
