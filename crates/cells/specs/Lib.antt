pub mod Mirrors
pub mod Frame
pub mod Slots
