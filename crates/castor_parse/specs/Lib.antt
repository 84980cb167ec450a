pub mod Grammar
pub mod Lexemes
pub mod Limits
pub mod Parsed
pub mod Parser
pub mod Place
