pub mod FindLaws
pub mod RowLaws
pub mod Meaning
pub mod SplitLaws
