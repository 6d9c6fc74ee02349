pub mod Progress
pub mod Merging
