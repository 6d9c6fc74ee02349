pub mod Whole
pub mod Reached
pub mod One
