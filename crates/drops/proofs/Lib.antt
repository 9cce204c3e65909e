pub mod CaseLaws
pub mod InsideLaws
pub mod NumberLaws
pub mod EmptiedSlot
pub mod FreeLaws
pub mod DropLaws
pub mod StepLaws
