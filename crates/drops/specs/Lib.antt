pub mod Calls
pub mod Terms
