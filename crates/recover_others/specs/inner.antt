pub mod Guard
pub mod Limit
