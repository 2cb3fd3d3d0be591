pub mod PlanText
pub mod Lines
pub mod Reading
