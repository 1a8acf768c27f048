pub mod DefaultLemmas
pub mod EntryLemmas
pub mod FormLemmas
pub mod LowLemmas
pub mod SortLemmas
pub mod TableLemmas
pub mod ValueLemmas
pub mod WordsLemmas
