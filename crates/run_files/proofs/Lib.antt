pub mod ReadLaws
pub mod Loadings
pub mod Stated
pub mod OneJob
