pub mod Dates
pub mod Frame
pub mod Moments
pub mod Numbers
pub mod Plain
