pub mod Reading
pub mod Follow
pub mod Make
pub mod Blames
