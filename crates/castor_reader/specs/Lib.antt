pub mod Answers
pub mod Entries
pub mod Fitting
pub mod Grouping
pub mod HeldValues
pub mod Replies
pub mod Shapes
