pub mod Shows
pub mod Sound
pub mod Local
pub mod Steps
pub mod Holds
