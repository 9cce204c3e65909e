pub mod Answers
pub mod Outcomes
