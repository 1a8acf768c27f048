pub mod Claimed
pub mod Closing
pub mod FitsCrew
pub mod Rule
