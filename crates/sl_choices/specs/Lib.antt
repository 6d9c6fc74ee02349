pub mod Chains
pub mod Choices
pub mod Marks
pub mod Rows
