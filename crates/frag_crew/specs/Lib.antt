pub mod Asked
pub mod Crew
pub mod Slots
