pub mod Binders
pub mod Holds
