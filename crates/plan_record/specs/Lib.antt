pub mod Names
pub mod Plan
