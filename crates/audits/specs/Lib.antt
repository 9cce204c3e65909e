pub mod Audits
pub mod Looked
