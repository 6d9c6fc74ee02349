pub mod Pools
pub mod Choices
pub mod Round
