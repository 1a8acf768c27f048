pub mod Component
pub mod Crew
pub mod Judge
pub mod Lanes
pub mod Pieces
pub mod Plan
pub mod Turned
