pub mod GrownLemmas
pub mod LineLemmas
pub mod AddingLemmas
pub mod CauseLemmas
