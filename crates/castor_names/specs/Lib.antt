pub mod Declarations
pub mod NameForms
pub mod Names
pub mod Scopes
pub mod Turns
