pub mod Seats
pub mod Crew
pub mod Rounds
pub mod Clearing
pub mod Watching
