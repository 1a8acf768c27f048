pub mod EmptyLemmas
mod PatternLemmas
