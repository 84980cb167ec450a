pub mod Cells
pub mod Columns
pub mod Fields
pub mod Gives
pub mod Limits
pub mod Values
