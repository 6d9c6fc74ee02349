mod Fields
pub mod Kept
mod Links
mod Lists
mod Marking
mod Numbers
mod Records
pub mod Whole
