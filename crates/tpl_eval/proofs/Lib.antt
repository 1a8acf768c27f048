pub mod FillLemmas
pub mod LimitLemmas
pub mod PathLemmas
pub mod SliceLemmas
