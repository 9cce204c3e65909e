pub mod Layout
pub mod Header
pub mod Columns
pub mod Blank
pub mod Table
