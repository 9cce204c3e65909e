pub mod Cost
pub mod Alike
