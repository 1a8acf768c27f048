pub mod CutLemmas
pub mod MarkLemmas
pub mod PathLemmas
pub mod SuffixLemmas
pub mod WrittenLemmas
