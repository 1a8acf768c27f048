pub mod FamilyLemmas
pub mod IndexLemmas
pub mod MapLemmas
pub mod NamingLemmas
pub mod OutputLemmas
