pub mod Choice
pub mod Refusals
pub mod NChars
pub mod Tokens
