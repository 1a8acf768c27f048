pub mod ListingLemmas
pub mod OrderLemmas
pub mod SetLemmas
