pub mod Silent
pub mod Inside
