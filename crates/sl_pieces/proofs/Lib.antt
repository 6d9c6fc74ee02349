mod Collected
pub mod Joined
pub mod Ranges
