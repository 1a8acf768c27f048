pub mod Cut
pub mod Number
pub mod Path
pub mod Reply
pub mod Request
