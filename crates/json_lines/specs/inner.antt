pub mod Views
pub mod Tokens
