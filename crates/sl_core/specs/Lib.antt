pub mod State
pub mod Machine
pub mod Dividing
pub mod Parts
pub mod Laws
