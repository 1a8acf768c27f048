mod ClaimedLemmas
pub mod Laws
mod LogLemmas
mod SeatLemmas
mod StepLemmas
mod SumLemmas
