pub mod Lines
pub mod Adding
pub mod Archive
pub mod Causes
