pub mod IndexLaws
pub mod SegmentLaws
pub mod TableLaws
pub mod RowLaws
