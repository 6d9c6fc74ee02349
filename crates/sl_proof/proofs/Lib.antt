pub mod Adding
pub mod Justified
pub mod Voids
