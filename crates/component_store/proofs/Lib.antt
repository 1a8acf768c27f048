pub mod FamilyLemmas
pub mod ClearLemmas
pub mod LastLemmas
pub mod SoundLemmas
pub mod BeginLemmas
pub mod JoinLemmas
pub mod AssembleLemmas
pub mod TidyLemmas
