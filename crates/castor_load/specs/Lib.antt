pub mod Lines
pub mod Plain
pub mod Reading
pub mod Rows
pub mod Words
pub mod Written
