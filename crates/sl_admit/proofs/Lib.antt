mod Applicants
mod Reaching
mod Round
mod Counted
