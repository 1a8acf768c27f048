pub mod CutLemmas
pub mod EndLemmas
pub mod LaneLemmas
pub mod TruthLemmas
pub mod TriedLemmas
pub mod ChainLemmas
pub mod TurnLemmas
