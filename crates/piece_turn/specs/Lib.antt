pub mod Ends
pub mod Lane
pub mod Step
pub mod Try
pub mod Turn
