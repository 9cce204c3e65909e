pub mod AnswerLaws
pub mod Tables
