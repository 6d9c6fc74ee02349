mod Kept
mod Links
mod Rows
