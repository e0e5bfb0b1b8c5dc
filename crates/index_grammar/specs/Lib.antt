pub mod Characters
pub mod Fronts
pub mod Grammar
pub mod Names
pub mod LentTokens
pub mod Reading
pub mod Steps
