pub mod FirstLaws
pub mod SizeLaws
pub mod BoxLaws
pub mod PairLaws
pub mod PlanLaws
