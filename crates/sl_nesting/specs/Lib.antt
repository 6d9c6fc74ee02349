pub mod Inside
pub mod Published
