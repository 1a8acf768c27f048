pub mod WorkLemmas
pub mod CrewLemmas
