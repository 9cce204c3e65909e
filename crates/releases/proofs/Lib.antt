pub mod CaseLaws
pub mod ChildLaws
pub mod KeptLaws
pub mod Meaning
pub mod OnceLaws
pub mod ReleasedLaws
pub mod SharedLaws
pub mod StepLaws
