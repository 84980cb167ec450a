pub mod Formed
pub mod Generation
pub mod Layouts
pub mod Places
pub mod Ranges
pub mod Sizes
