pub mod Releases
pub mod Entered
