pub mod Pools
pub mod Programmes
pub mod Taking
