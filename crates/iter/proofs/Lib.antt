pub mod WalkLaws
pub mod Meaning
