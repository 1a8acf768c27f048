pub mod Component
pub mod Pieces
pub mod Kept
pub mod Record
pub mod Views
