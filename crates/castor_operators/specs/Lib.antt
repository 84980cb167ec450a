pub mod Operators
pub mod Relations
