pub mod Jobs
pub mod Runs
pub mod Chain
pub mod Memory
