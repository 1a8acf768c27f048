pub mod NumeralLemmas
pub mod CutLemmas
pub mod RequestLemmas
