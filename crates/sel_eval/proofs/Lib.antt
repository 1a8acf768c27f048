pub mod DenLemmas
pub mod ExtLemmas
pub mod MatcherLemmas
pub mod MergingLemmas
pub mod NthLemmas
pub mod OrderLemmas
pub mod PickLemmas
pub mod PlacedLemmas
