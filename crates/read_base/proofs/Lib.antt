pub mod AgainLemmas
pub mod LocalLemmas
pub mod LoopLemmas
pub mod OpensLemmas
pub mod SpellsLemmas
pub mod StepLemmas
