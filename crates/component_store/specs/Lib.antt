pub mod Component
pub mod Target
pub mod Begin
pub mod Assemble
pub mod Tidy
