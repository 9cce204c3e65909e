pub mod ReadLaws
pub mod LookLaws
pub mod NumberLaws
