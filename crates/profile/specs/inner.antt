pub mod Kept
pub mod Meeting
pub mod Places
