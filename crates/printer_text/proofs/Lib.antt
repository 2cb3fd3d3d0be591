pub mod ItemLaws
pub mod RangeLaws
pub mod OutlineLaws
pub mod HullLaws
pub mod KeyLaws
