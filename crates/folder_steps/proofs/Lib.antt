pub mod ImageLemmas
pub mod RemovalLemmas
pub mod NewFileLemmas
pub mod ReadingLemmas
pub mod PourLemmas
pub mod RefusalLemmas
