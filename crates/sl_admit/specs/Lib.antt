pub mod Admitting
pub mod Counting
