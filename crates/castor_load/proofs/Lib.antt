mod FirstField
pub mod Fits
mod Fuel
mod LineValues
mod OneRecord
mod Rows
mod Steps
mod Written
