pub mod Text
pub mod Naming
pub mod Family
pub mod Index
