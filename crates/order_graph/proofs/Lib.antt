pub mod LeadingLaws
pub mod Lists
pub mod NextLaws
pub mod NoteLaws
pub mod OrderLaws
pub mod PlacingLaws
pub mod SetLaws
pub mod WayLaws
