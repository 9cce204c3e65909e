pub mod KeyLaws
pub mod TagLaws
