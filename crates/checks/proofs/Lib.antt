pub mod Passed
pub mod LocalForm
pub mod SoundLaws
pub mod Standing
pub mod PassedLaws
pub mod JudgeLaws
pub mod ExactLaws
