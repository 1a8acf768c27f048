pub mod Fields
pub mod Formats
pub mod Found
pub mod Item
pub mod Items
pub mod Sums
pub mod View
