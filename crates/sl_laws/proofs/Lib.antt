-- Lists, admission and effective limits.
pub mod Lists
pub mod Choices
pub mod Effective
pub mod Slices
-- Trees of pools: what lies inside what, and who is admitted where.
pub mod Nest
pub mod Outward
pub mod Direct
pub mod Parts
pub mod Cover
pub mod Few
pub mod Full
-- The laws, for score pools, for merit pools and then for all.
pub mod Score
pub mod Merit
pub mod Passes
pub mod Fits
pub mod Least
pub mod AllRules
pub mod Local
pub mod Top
pub mod Alike
pub mod Best
pub mod Feeding
pub mod Earlier
pub mod Ends
pub mod Settling
pub mod Relaxed
-- The loops of the code.
pub mod Steps
-- Examples.
mod Examples
