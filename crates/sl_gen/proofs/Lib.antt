pub mod Failing
pub mod Numbered
pub mod Once
pub mod Groups
pub mod Sizes
pub mod Listed
pub mod MeritPools
pub mod Fits
mod Between
