pub mod Limits
pub mod Stable
pub mod Raises
pub mod Best
pub mod Laws
pub mod Outcome
