pub mod Clean
pub mod Cut
pub mod Marks
pub mod Path
pub mod Quote
pub mod Suffix
