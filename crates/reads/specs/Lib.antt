pub mod Listed
pub mod Agrees
