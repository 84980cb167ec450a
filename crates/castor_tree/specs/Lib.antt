pub mod Formed
pub mod Sizes
