pub mod CharLemmas
pub mod DateLemmas
pub mod DigitLemmas
pub mod ListLemmas
pub mod NumberLemmas
