pub mod Silent
pub mod Stream
