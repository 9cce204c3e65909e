pub mod History
pub mod Answered
pub mod Follows
pub mod Told
pub mod Spends
pub mod Program
