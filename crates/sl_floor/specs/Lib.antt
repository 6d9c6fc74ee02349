pub mod Floor
pub mod Held
pub mod Rule
pub mod Laws
pub mod Ending
pub mod Sets
