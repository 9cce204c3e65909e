pub mod WriteLaws
pub mod ListedLaws
