pub mod Check
pub mod WellTyped
