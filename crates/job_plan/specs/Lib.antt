pub mod Plan
pub mod Draft
pub mod Jobs
pub mod Laws
pub mod Outcome
pub mod Views
pub mod Passes
pub mod Fetchable
