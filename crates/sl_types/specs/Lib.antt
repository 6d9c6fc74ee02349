pub mod Market
pub mod Rows
pub mod Rules
pub mod Steps
pub mod Trees
pub mod Valid
pub mod WellFormed
