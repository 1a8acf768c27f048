pub mod NumberLemmas
pub mod OrderLemmas
pub mod RankedLemmas
pub mod ReadingLemmas
pub mod RowLemmas
