pub mod Rooms
pub mod Terms
