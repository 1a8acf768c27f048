pub mod MemoryLemmas
pub mod StepLemmas
pub mod ChainLemmas
pub mod StepEnds
