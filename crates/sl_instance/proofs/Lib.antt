mod Chosen
pub mod Once
mod Fit
pub mod Existence
pub mod Keys
pub mod Rows
pub mod Agreeing
