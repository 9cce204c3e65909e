pub mod Bitmap
pub mod Array
pub mod Room
pub mod Places
pub mod Finds
pub mod Changes
