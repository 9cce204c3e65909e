pub mod StepLaws
pub mod KeptLaws
pub mod LengthLaws
pub mod NewEntry
pub mod Making
pub mod SharedLaws
pub mod Meaning
