pub mod Answers
pub mod Grouping
pub mod Keys
pub mod Marks
pub mod Parts
pub mod Ranges
