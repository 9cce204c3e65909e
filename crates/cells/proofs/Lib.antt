pub mod TakeLaws
pub mod RowLaws
pub mod SlotLaws
pub mod KeptLaws
pub mod StepColumns
pub mod Meaning
pub mod Made
