pub mod Bounds
pub mod Expressions
pub mod Groups
pub mod Indexes
pub mod Items
